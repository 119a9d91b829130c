-- What holds while a follower serves.
use Rattle.std.specs.Prelude.{◌≡◌, ℕ, ◌+◌, ◌*◌, ◌≤◌, ◌^◌, List, [], ◌∷◌, ◌++◌, length, true, None, Result, Ok, Err}
use Rattle.run_history.specs.declared.answer.Answer.TheVariants as answer
use Rattle.standby.specs.Terms.{sent_to, Entry, Told, events_in, pieces_in, Seen, Choice, Image, Answer, AsksFor, Path, standing_of, Standing, items_in, Recorded, count_of, AreOpen, stage_of, bounds_of}
use Rattle.standby.specs.declared.follower.Follower.{Follower}
use Rattle.standby.specs.Hearing.{HasHeard}
use Rattle.standby.specs.Missing.{AllGiven}
use Rattle.standby.specs.Serving.{AreServed, HasServed, IsFollowed, plain_limits}

-- there is room to count the instructions of a run that takes at most 2^20 items, with at most 2^36 instructions between two of them
pub record HasRoom (s : Standing) : Type 0 where
  pub since : s.guest.machine.since ≤ 2 ^ 62
  pub steps : s.steps ≤ 2 ^ 62 + s.guest.machine.taken * 68719476737 + s.guest.machine.since

-- a follower serves: its run stands here, and clients got all that they missed
pub record IsServing (image : Image) (recorded : Recorded) (budget : ℕ) (counts : List (ℕ × ℕ)) (began : Told) (now : Seen) (from : List Entry) (follower : Follower) : Type 0 where
  pub entries : List Entry
  pub path : Path
  pub since : List Entry
  pub behind : entries ≡ from ++ since
  pub heard : HasHeard recorded began now entries (stage_of follower.player)
  pub followed : IsFollowed image recorded budget (items_in (bounds_of recorded) entries) path
  pub few : (conn : ℕ) → count_of counts conn ≤ length (sent_to conn followed.seam.state.sends)
  pub stands : standing_of path ≡ follower.player.cpu.slots.live
  pub choices : follower.player.choices.items ≡ path.choices
  pub given : AllGiven counts (events_in from) followed.seam path (pieces_in entries)
  pub asked : AreServed image recorded budget counts from entries
  pub lives : follower.player.cpu.slots.live.ended ≡ None
  pub opened : AreOpen now.phases follower.player.cpu.slots.live.guest.machine.connections
  pub room : HasRoom follower.player.cpu.slots.live

-- it goes on, or has an answer
abbrev pub ServesBy : Image → Recorded → ℕ → List (ℕ × ℕ) → Told → Seen → List Entry → Follower → Result (Unit {0}) Answer → Type 0
ServesBy image recorded budget counts began now from follower (Ok done) = IsServing image recorded budget counts began now from follower
ServesBy image recorded budget counts began now from follower (Err end) = HasServed image recorded budget counts began now from end follower

-- all is as it was but the answers of the allocator that were kept
pub record KeepsButChoices (old new : Follower) : Type 0 where
  pub stage : stage_of new.player ≡ record (stage_of old.player) { choices = new.player.choices.items }
  pub cpu : new.player.cpu ≡ old.player.cpu

-- its guest asks for an item
pub record IsWanting (image : Image) (recorded : Recorded) (budget : ℕ) (counts : List (ℕ × ℕ)) (began : Told) (now : Seen) (from : List Entry) (follower : Follower) : Type 0 where
  pub is : IsServing image recorded budget counts began now from follower
  pub asks : AsksFor (plain_limits budget) [] is.path is.path.state.machine.taken

-- a follower stands so for some image and record, and no call of its link has failed
pub record StandsServing (budget : ℕ) (seen : Seen) (follower : Follower) : Type 0 where
  pub image : Image
  pub recorded : Recorded
  pub counts : List (ℕ × ℕ)
  pub began : Told
  pub from : List Entry
  pub is : IsServing image recorded budget counts began seen from follower
  pub takes : seen.takes ≡ true
  pub gives : seen.gives ≡ true

pub record StandsWanting (budget : ℕ) (seen : Seen) (follower : Follower) : Type 0 where
  pub image : Image
  pub recorded : Recorded
  pub counts : List (ℕ × ℕ)
  pub began : Told
  pub from : List Entry
  pub is : IsWanting image recorded budget counts began seen from follower
  pub takes : seen.takes ≡ true
  pub gives : seen.gives ≡ true

-- an answer of the allocator is kept behind all others, or memory ran out
abbrev pub NotesChoice : Choice → Follower → Follower → Result (Unit {0}) Answer → Type 0
NotesChoice choice old new (Ok done) = KeepsButChoices old new × (new.player.choices.items ≡ old.player.choices.items ++ choice ∷ [])
NotesChoice choice old new (Err answer.Memory) = KeepsButChoices old new × (new.player.choices.items ≡ old.player.choices.items)
NotesChoice choice old new (Err end) = ⊥
