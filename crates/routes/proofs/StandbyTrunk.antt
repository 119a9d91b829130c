-- A record that is followed over a trunk, and served on: what is left in bytes, by what its link shows.
use Rattle.links.specs.declared.journal.LinkEvent.TheVariants as event
use Rattle.run_history.specs.declared.answer.Answer.TheVariants as answer
use Rattle.standby.specs.Serving.{EndsBy}
use Rattle.standby.specs.declared.following.Unfollowed.{Unfollowed}
use Rattle.routes.proofs.Terms.{List, Option, [], arith, length, option_map, refl, subst, true, ℕ, ◌+◌, ◌∙◌, ◌≡◌, ◌≤◌, Err, IfSome, IsSome, Ok, Result, Stream, Entry, Coming, Grew, IsNext, Refuses, Told, events_in, pieces_in, Seen, TrunkLink, Countable, GivesOn, TakesOn, TookFrames, WroteFrames, TrunkWent, intake_of, output_of, seen_of, told_of, Image, Answer, Run, Path, items_in, Recorded, Difference, IsReplay, LeavesLink, Replay, bounds_of, Follower, BreaksBy, CatchesUp, HasBroken, HasCaughtUp, LinkCatches, AllGiven, HasServed, WasServed, WritesWhole, IsRecordedRun, BreaksOffTrunk, CatchesUpTrunk, FollowsTrunk, IsNewTrunk, ServesOnTrunk}
use Rattle.routes.proofs.WriteLemmas.{Short}
use Rattle.routes.proofs.ServeLemmas.{takes_trunk, writes_trunk, writes_whole}
use Rattle.routes.proofs.StandbyLemmas.{breaks_end, carries_pieces, known_here, known_since, takes_followed, takes_served, takes_whole}

-- at a refusal it comes next
broken_refused : (image : Image) (recorded : Recorded) (now : Seen) (entries : List Entry) (replay : Replay) (end : Answer) (kind offset : ℕ) → BreaksBy image recorded now entries replay end → end ≡ answer.InputRefused kind offset
    → IfSome now.coming (λ next. next ≡ Refuses kind offset)
broken_refused image recorded now entries replay end kind offset ends is = (subst (λ (a : Answer). BreaksBy image recorded now entries replay a) is ends).1.1

module _ (recorded : Recorded) (budget : ℕ) (entries : List Entry) (path : Path) (coming : Option Coming) (Given Asked : Type 0) (end : Answer) (ends : EndsBy recorded budget entries path coming Given Asked end) where
  served_at : {other : Answer} → end ≡ other → EndsBy recorded budget entries path coming Given Asked other
  served_at is = subst (λ (a : Answer). EndsBy recorded budget entries path coming Given Asked a) is ends

  served_refused : (kind offset : ℕ) → end ≡ answer.InputRefused kind offset → IfSome coming (λ next. next ≡ Refuses kind offset)
  served_refused kind offset is = (served_at is).3

  served_finished : end ≡ answer.Finished → IfSome coming (λ next. IsNext next event.Ends)
  served_finished is = (served_at is).3

  -- no serving ends by a fault of files
  served_no_file : end ≡ answer.FileFault → ⊥
  served_no_file is = served_at is

-- a replay that has come to the record's end is the record's run
whole_run : (image : Image) (recorded : Recorded) (entries : List Entry) (replay : Replay) → IsReplay image recorded entries replay → replay.steps ≡ recorded.steps → length replay.choices ≡ length recorded.lines → replay.state.machine.taken ≡ recorded.taken
    → IsRecordedRun image recorded entries replay answer.Finished
whole_run image recorded entries replay is steps all taken = (subst (λ n. Run image (items_in (bounds_of recorded) entries) replay.choices n replay.state) steps is.ran, is.lines, all, taken)

-- where an event may be taken no more after a refusal, what comes was known
leaves_known : (first now : Seen) (end : Answer) (kind offset : ℕ) → LeavesLink first now end → end ≡ answer.InputRefused kind offset → IsSome first.coming → IsSome now.coming
leaves_known first now end kind offset leaves is = (subst (λ (a : Answer). LeavesLink first now a) is leaves).2

module _ {S K F G : Type 0} (source_fixed : S → F) (source_told : S → Option Stream) (source_faults : S → ℕ) (sink_fixed : K → G) (sink_told : K → Option (List ℕ)) (sink_faults : K → ℕ) (made link : TrunkLink S K)
    (new : IsNewTrunk source_told source_faults sink_told sink_faults made) (went : TrunkWent source_fixed source_told sink_fixed sink_told made link) (few : Countable (source_told link.source)) (short : Short (sink_told link.sink)) where
  abbrev shows : TrunkLink S K → Seen
  shows trunk = seen_of source_told source_faults sink_told sink_faults trunk

  abbrev began : Told
  began = told_of source_told sink_told made

  took : TookFrames (intake_of source_told made) (intake_of source_told link)
  took = subst (λ b. TakesOn b (intake_of source_told made) (intake_of source_told link)) new.shows.takes went.taken

  wrote : WroteFrames (output_of sink_told made) (output_of sink_told link)
  wrote = subst (λ b. GivesOn b (output_of sink_told made) (output_of sink_told link)) new.shows.gives went.given

  events : (entries : List Entry) → Grew began.events (shows link).told.events (events_in entries) → Grew (option_map (λ _. []) (source_told made.source)) (shows link).told.events (events_in entries)
  events entries grew = subst (λ (told : Told). Grew told.events (shows link).told.events (events_in entries)) new.told grew

  pieces : (entries : List Entry) → Grew began.pieces (shows link).told.pieces (pieces_in entries) → Grew (option_map (λ _. []) (sink_told made.sink)) (shows link).told.pieces (pieces_in entries)
  pieces entries grew = subst (λ (told : Told). Grew told.pieces (shows link).told.pieces (pieces_in entries)) new.told grew

  -- nothing was written
  wrote_none : (entries : List Entry) → Grew began.pieces (shows link).told.pieces (pieces_in entries) → pieces_in entries ≡ [] → link.gives ≡ true → WritesWhole (sink_told made.sink) (sink_told link.sink) []
  wrote_none entries grew no_pieces still =
      subst (λ list. WritesWhole (sink_told made.sink) (sink_told link.sink) list) no_pieces (writes_whole (output_of sink_told made) (output_of sink_told link) (pieces_in entries) new.wrote short wrote still (pieces entries grew))

  -- a record was followed to its end
  pub followed : (image : Image) (recorded : Recorded) (follower : Follower) (up : HasCaughtUp image recorded began (shows link) follower)
      → FollowsTrunk image recorded (source_told made.source) (source_told link.source) (sink_told made.sink) (sink_told link.sink) up.entries up.sends
  followed image recorded follower up = record {
    replay = _;
    asked = up.follows.asked;
    is = up.follows.is;
    whole = whole_run image recorded up.entries _ up.follows.is up.at_end up.all up.taken;
    sends_are = refl;
    takes = takes_whole (intake_of source_told made) (intake_of source_told link) (events_in up.entries) new.shows.phases new.took few took (events up.entries up.follows.heard.tells.events) up.takes;
    wrote = wrote_none up.entries up.follows.heard.tells.pieces up.follows.no_pieces up.gives;
  }

  -- following broke off
  pub broken : (image : Image) (recorded : Recorded) (end : Answer) (found : Option Difference) (before after counted : ℕ) → HasBroken image recorded (shows made) (shows link) end found before after → LeavesLink (shows made) (shows link) end
      → link.gives ≡ true → after ≡ before + counted → BreaksOffTrunk image recorded (source_told made.source) (source_told link.source) (sink_told made.sink) (sink_told link.sink) end found counted
  broken image recorded end found before after counted has leaves still count = record {
    entries = has.entries;
    replay = has.replay;
    seen = shows link;
    asked = has.asked;
    is = has.is;
    ends = has.ends;
    differs = has.differs;
    all_counted = let all = has.counted in omega (arith, all, count);
    took = takes_trunk (intake_of source_told made) (intake_of source_told link) (events_in has.entries) _ has.failed new.shows.phases new.took few took (events has.entries has.tells.events);
    takes =
        takes_followed (intake_of source_told made) (intake_of source_told link) (events_in has.entries) new.shows.phases new.took few took (events has.entries has.tells.events) (shows made) (shows link) end refl leaves
        (λ stream kind offset told is.
        (leaves_known (shows made) (shows link) end kind offset leaves is (known_here (intake_of source_told made) stream told new.shows.takes), broken_refused image recorded (shows link) has.entries has.replay end kind offset has.ends is));
    wrote = wrote_none has.entries has.tells.pieces has.no_pieces still;
  }

  -- it was served on, from where another link stood
  pub served : (mid : TrunkLink S K) (image : Image) (recorded : Recorded) (budget : ℕ) (counts : List (ℕ × ℕ)) (from : List Entry) (end : Answer) (follower : Follower) → TrunkWent source_fixed source_told sink_fixed sink_told made mid → mid.takes ≡ true
      → HasServed image recorded budget counts began (shows link) from end follower → LeavesLink (shows mid) (shows link) end
      → ServesOnTrunk image recorded budget counts from (source_told made.source) (source_told link.source) (sink_told made.sink) (sink_told link.sink) end follower.player.choices.items follower.player.cpu.slots.live.steps follower.player.cpu.slots.live.guest.machine.taken
  served mid image recorded budget counts from end follower before takes has leaves =
      let given = AllGiven counts (events_in from) has.followed.seam has.path (pieces_in has.entries) in
      let asked = WasServed image recorded budget counts from has.entries in
      let first : TookFrames (intake_of source_told made) (intake_of source_told mid) = subst (λ b. TakesOn b (intake_of source_told made) (intake_of source_told mid)) new.shows.takes before.taken in
      let whole : link.gives ≡ true → WritesWhole (sink_told made.sink) (sink_told link.sink) (pieces_in has.entries) =
      λ still. writes_whole (output_of sink_told made) (output_of sink_told link) (pieces_in has.entries) new.wrote short wrote still (pieces has.entries has.tells.pieces) in
      record {
        entries = has.entries;
        since = has.since;
        path = has.path;
        coming = (shows link).coming;
        behind = has.behind;
        followed = has.followed;
        few = has.few;
        choices_are = has.choices;
        steps_are = has.steps;
        taken_are = has.taken;
        asked = has.asked;
        ends = has.ends;
        took = takes_trunk (intake_of source_told made) (intake_of source_told link) (events_in has.entries) _ has.failed new.shows.phases new.took few took (events has.entries has.tells.events);
        takes =
            takes_served (intake_of source_told made) (intake_of source_told link) (events_in has.entries) new.shows.phases new.took few took (events has.entries has.tells.events) (shows mid) (shows link) end refl leaves
            (λ stream kind offset told is. (leaves_known (shows mid) (shows link) end kind offset leaves is (known_since stream first told takes), served_refused recorded budget has.entries has.path (shows link).coming given asked end has.ends kind offset is))
            (λ is. served_finished recorded budget has.entries has.path (shows link).coming given asked end has.ends is);
        wrote = writes_trunk (output_of sink_told made) (output_of sink_told link) (pieces_in has.entries) new.wrote short wrote (pieces has.entries has.tells.pieces);
        given = has.given;
        carries = carries_pieces (output_of sink_told made) (output_of sink_told link) (pieces_in has.entries) new.wrote short wrote (pieces has.entries has.tells.pieces);
        breaks =
            breaks_end (intake_of source_told made) (intake_of source_told link) (events_in has.entries) new.shows.phases new.took few took (events has.entries has.tells.events) (pieces_in has.entries) (shows mid) (shows link) (sink_told made.sink) (sink_told link.sink) end refl
            leaves (λ is. served_no_file recorded budget has.entries has.path (shows link).coming given asked end has.ends is) whole;
      }

  -- so it is, by the answer
  pub caught_up : (image : Image) (recorded : Recorded) (before after : ℕ) (result : Result Follower Unfollowed) → CatchesUp image recorded (shows made) (shows link) before after result → LinkCatches (shows made) (shows link) result
      → CatchesUpTrunk source_told source_faults sink_told sink_faults image recorded made link before after result
  caught_up image recorded before after (Ok follower) has leaves = (record { up = has.0; follows = followed image recorded follower has.0 }, has.1)
  caught_up image recorded before after (Err unfollowed) has leaves =
      λ counted count. broken image recorded unfollowed.answer unfollowed.difference before after counted has leaves.1 (leaves.0 ∙ new.shows.gives) count

-- instructions are counted up
pub counts_more : (image : Image) (recorded : Recorded) (first now : Seen) (before after : ℕ) (result : Result Follower Unfollowed) → CatchesUp image recorded first now before after result → before ≤ after
counts_more image recorded first now before after (Ok follower) has = let count = has.1 in omega (arith, count)
counts_more image recorded first now before after (Err unfollowed) has = let count = has.counted in omega (arith, count)
