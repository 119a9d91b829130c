-- What a session notes of a piece that it handed to its link.
use Rattle.std.specs.Prelude.{◌≡◌, ℕ, ◌≤◌, Result, Ok, Err}
use Rattle.links.specs.declared.journal.LinkFault.TheVariants as cause
use Rattle.link_gate.specs.Terms.{Given, All, Gone, LinkFault, Ledger, gone_connection, with_change, with_passed, PassFault}
use Rattle.link_gate.specs.declared.pass_fault.PassFault.TheVariants as fault

-- no more bytes went out than were handed over
abbrev pub IsWithin : ℕ → Result Given LinkFault → Type 0
IsWithin count (Ok All) = Unit {0}
IsWithin count (Ok (Gone front)) = front ≤ count
IsWithin count (Err why) = Unit {0}

-- the fault of a session for one of its link
abbrev pub fault_of : LinkFault → PassFault
fault_of cause.WriteFault = fault.WriteFault
fault_of cause.Memory = fault.Memory
fault_of cause.ReadFault = fault.Memory
fault_of (cause.Refused kind offset) = fault.Memory

-- What went out is noted as passed, and a connection that is gone as gone. After a fault nothing is noted: the link's, or want of
-- memory behind a piece that went out.
abbrev pub IsNoted : ℕ → ℕ → ℕ → Ledger → Ledger → Result Given LinkFault → Result (Unit {0}) PassFault → Type 0
IsNoted stamp conn count old new (Ok All) (Ok done) = new ≡ with_passed old conn count stamp
IsNoted stamp conn count old new (Ok (Gone front)) (Ok done) = new ≡ with_change (with_passed old conn front stamp) conn gone_connection
IsNoted stamp conn count old new (Err why) (Ok done) = ⊥
IsNoted stamp conn count old new (Ok given) (Err stopped) = (new ≡ old) × (stopped ≡ fault.Memory)
IsNoted stamp conn count old new (Err why) (Err stopped) = (new ≡ old) × (stopped ≡ fault_of why)
