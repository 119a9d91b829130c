-- What passing replies to a link asks for, and what becomes of the link and of the ledger.
use Rattle.std.specs.Prelude.{◌≡◌, ℕ, ◌≤◌, true, false, None, Result, IfOk, IsErrOf}
use Rattle.link_gate.specs.Terms.{Rose, Counts, Seen, but_given, Ledger, NotBefore, is_open, stamped_to, stamps_of, AreSendable, PassFault}
use Rattle.link_gate.specs.declared.pass_fault.PassFault.TheVariants as fault

-- nothing was passed with more items received than these
abbrev pub AreStampedBy : ℕ → Ledger → Type 0
AreStampedBy received ledger = (conn : ℕ) → NotBefore received (stamps_of (stamped_to ledger.connections conn))

-- a link gives, and to each connection that a ledger has as open
pub record CanGive (seen : Seen) (ledger : Ledger) : Type 0 where
  pub gives_still : seen.gives ≡ true
  pub connected : (conn : ℕ) → is_open ledger.connections conn ≡ true → seen.gives_to conn ≡ true

-- No trial is under way, nothing was passed with more items received than these, and each send is short enough for a piece. The link gives.
pub record MayPass (received : ℕ) (seen : Seen) (ledger : Ledger) : Type 0 where
  pub survivor : ledger.trial ≡ None
  pub stamped : AreStampedBy received ledger
  pub sendable : AreSendable ledger.kept
  pub gives : CanGive seen ledger

-- no count falls, and WriteFault is answered only where that of failed gives rose
pub record HasPassCause {T : Type 0} (before now : Counts) (result : Result T PassFault) : Type 0 where
  pub later : before.gives ≤ now.gives
  pub write_fault : IsErrOf result fault.WriteFault → Rose before.gives now.gives
  pub gones : before.gones ≤ now.gones
  pub takes : now.takes ≡ before.takes

-- of a link nothing changes but what giving changes; it gives still where all was passed, and no more at a fault of writing
pub record PassShows {T : Type 0} (old new : Seen) (result : Result T PassFault) : Type 0 where
  pub cause : HasPassCause old.counts new.counts result
  pub gives : IfOk result (λ _. new.gives ≡ true)
  pub stops : IsErrOf result fault.WriteFault → new.gives ≡ false
  pub rest : new ≡ but_given old new

-- passing changes nothing that was sent
pub record HasSameSends (old new : Ledger) : Type 0 where
  pub first : new.first ≡ old.first
  pub kept : new.kept ≡ old.kept
  pub trial : new.trial ≡ old.trial

-- what becomes of a link and a ledger while pieces are passed
pub record KeepsPassing {T : Type 0} (received : ℕ) (old new : Seen) (ledger later : Ledger) (result : Result T PassFault) : Type 0 where
  pub shows : PassShows old new result
  pub sends : HasSameSends ledger later
  pub stamped : IfOk result (λ _. AreStampedBy received later)
  pub connected : (conn : ℕ) → is_open later.connections conn ≡ true → new.gives_to conn ≡ true
