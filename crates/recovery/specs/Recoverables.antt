-- What is said of what a recovery may take back, and what calls leave of it.
use Rattle.std.specs.Prelude.{◌≡◌, ℕ, ◌*◌, ◌/◌, Bool, List, [], Result}
use Rattle.item_log.specs.Log as logs
use Rattle.recovery.specs.Terms.{AllocError, Entry, Heap, no_replies, Image, Cause, Override, Path, IsFreshCpu, Rules}
use Rattle.recovery.specs.declared.recoverable.Recoverable.{Recoverable}
use Rattle.recovery.specs.declared.recoverable.Room.{Room}
use Rattle.recovery.specs.declared.recovering.Recovered.{Recovered}
use Rattle.recovery.specs.declared.walking.FailureSite.{FailureSite}
use Rattle.recovery.specs.Sessions.{CanTry, Failure, FailedAt, Held, taken_in}
use Rattle.recovery.specs.Trying.{KeepsSaved}
use Rattle.recovery.specs.Rings.{CanSave, KeepsGuest, KeepsRing}
use Rattle.recovery.specs.Recovering.{CanRecover, HasToRecover, LeavesRest, RecoversBy}
use Rattle.recovery.specs.Handling.{keeping_by}

module _ {R : Type 0} where
  -- at the start of a program, with room for so much: no checkpoint stands, and nothing was received, sent or noted
  pub record IsFresh (image : Image) (room : Room) (rule : R) (held : Recoverable R) : Type 0 where
    pub cpu : IsFreshCpu image room.ring (room.frames * (image.window / 4096)) rule held.cpu
    pub log : held.log ≡ logs.empty_log room.framing room.max_items
    pub shows : logs.Shows room.framing [] held.log
    pub replies : held.replies ≡ no_replies
    pub none_recorded : held.recorded ≡ 0
    pub no_choices : held.choices.items ≡ []

  -- its program failed so, with so many items taken
  abbrev pub HasFailedAt : ℕ → Failure → Recoverable R → Type 0
  HasFailedAt point failure held = FailedAt point failure held.cpu held.log held.replies

  -- trials can be made of it: its program failed with so many items taken
  abbrev pub CanBeTried : ℕ → (Heap → ℕ → ℕ → Bool) → ℕ → Recoverable R → Type 0
  CanBeTried budget permits point held = CanTry budget permits point held.cpu held.log held.replies

  -- what a session takes back, as the definitions see it
  abbrev pub held_of : Recoverable R → Held R
  held_of held = record { cpu = held.cpu; log = held.log; replies = held.replies; recorded = held.recorded; choices = held.choices.items }

  -- its checkpoints are these runs, beside the items and the replies that it has
  abbrev pub HoldsRing : Rules → Image → List Entry → List Override → Path → List Path → Recoverable R → Type 0
  HoldsRing rules image entries plan now paths held = KeepsRing rules image entries plan now paths held.cpu held.log held.replies

  -- its guest stands at a request for an item, and a trial could begin there
  abbrev pub CanBeSaved : Rules → Image → List Entry → List Override → Path → List Path → Recoverable R → Type 0
  CanBeSaved rules image entries plan now paths held = CanSave rules image entries plan now paths held.cpu held.log held.replies (taken_in held.cpu.slots.live)

  -- its survivor failed so, and its checkpoints are those of the failure
  abbrev pub IsToRecover : FailureSite → Failure → Recoverable R → Type 0
  IsToRecover site failure held = HasToRecover site failure (held_of held)

  -- it has failed, at this site
  abbrev pub CanBeRecovered : ℕ → (Heap → ℕ → ℕ → Bool) → FailureSite → Recoverable R → Type 0
  CanBeRecovered budget permits site held = CanRecover budget permits site (held_of held)

  -- by the answer of a recovery: the survivor that began so was recovered, or memory ran out
  abbrev pub IsRecoveredBy : Failure → Path → Cause → Recoverable R → Recoverable R → ℕ → ℕ → Result Recovered AllocError → Type 0
  IsRecoveredBy failure begun cause old new before after result = RecoversBy failure begun cause (held_of old) (held_of new) before after result

  -- by the answer: what a recovery leaves whatever the failure was
  abbrev pub LeavesHeldBy : Recoverable R → Recoverable R → Result Recovered AllocError → Type 0
  LeavesHeldBy old new result = LeavesRest (held_of old) (held_of new) result

  -- A save changes the guest's checkpoints alone.
  pub record KeepsUnsaved (old new : Recoverable R) : Type 0 where
    pub guest : KeepsGuest old.cpu new.cpu
    pub rest : new ≡ record old { cpu = new.cpu }

  -- a trial changes the guest and the replies alone,
  abbrev pub KeepsRest : Recoverable R → Recoverable R → Type 0
  KeepsRest old new = new ≡ record old { cpu = new.cpu; replies = new.replies }

  -- and of the guest only where it stands
  pub record KeepsUntried (old new : Recoverable R) : Type 0 where
    pub saved : KeepsSaved old.cpu new.cpu
    pub rest : KeepsRest old new

  -- A recovery changes neither the items nor what is recorded, nor the guest's rule, nor how its checkpoints are kept.
  pub record KeepsHeld (old new : Recoverable R) : Type 0 where
    pub rule : new.cpu.rule ≡ old.cpu.rule
    pub keeping : (every : ℕ) → keeping_by every new.cpu.slots ≡ keeping_by every old.cpu.slots
    pub rest : new ≡ record old { cpu = new.cpu; replies = new.replies; choices = new.choices }
