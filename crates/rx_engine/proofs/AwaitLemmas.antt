-- How far a session has come that follows, and hears its link until an item is there.
use Rattle.std.specs.Prelude.{List, ℕ, ◌≤◌}
use Rattle.session_state.specs.Serving.{StaysKnown}
use Rattle.rx_engine.proofs.Terms.{ap, ◌∙◌, Bool, Told, Seen, Heap, Image, Rules, Noted, Handed, MayServe, rules_by, SessionState, WaitsOn, KeepsHeard}

module _ {R : Type 0} where
  -- it waits so still, and its link may be heard
  pub record HasAwaitedOn (permits : R → Heap → ℕ → ℕ → Bool) (Went : Type 0) (was seen : Seen) (old new : SessionState R) : Type 0 where
    pub hears : (rules : Rules) (image : Image) (handed : Handed) (before : Told) (noted_before noted : Noted) (missing : List ℕ) → WaitsOn rules (rules_by permits old) image handed before was noted_before noted missing old
        → WaitsOn rules (rules_by permits new) image handed before seen noted_before noted missing new
    pub keeps : KeepsHeard old new
    pub may : MayServe seen new.replies
    pub known : StaysKnown was.coming seen.coming
    pub no_takes_fell : was.counts.takes ≤ seen.counts.takes
    pub no_gives_fell : was.counts.gives ≤ seen.counts.gives
    pub went : Went

  -- one event after another
  pub heard_then : {old mid new : SessionState R} → KeepsHeard old mid → KeepsHeard mid new → KeepsHeard old new
  heard_then {new = new} first later = record {
    same = later.same ∙ ap (λ (s : SessionState R). record s { log = new.log; replies = new.replies; events = new.events; before = new.before }) first.same;
    first = later.first ∙ first.first;
    sends = later.sends ∙ first.sends;
  }
