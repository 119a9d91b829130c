-- Entries at the end of a journal, as what a link tells.
use Rattle.links.proofs.Terms.{Bool, Err, List, None, Ok, Option, Result, Some, [], ap, append-nil, arith, false, if◌then◌else◌, length, min, refl, sym, true, ℕ, ◌++◌, ◌∙◌, ◌∷◌, ◌≡◌, ◌≤◌, fails_next, Entry, Given, All, Gone, LinkEvent, LinkFault, Memory, ReadFault, Refused, WriteFault, Gives, Nexts, Tells, events_in, pieces_in, told_by, AnswersAs, Script, after_giving, after_taking, given_of, planned_give}
use Rattle.links.specs.declared.journal.Entry.TheVariants as entry
use Rattle.links.specs.declared.journal.LinkEvent.TheVariants as event

pub events_in-append : (entries more : List Entry) → events_in (entries ++ more) ≡ events_in entries ++ events_in more
events_in-append [] more = refl
events_in-append (entry.Took event.Ends ∷ entries) more = events_in-append entries more
events_in-append (entry.Took (event.Opens conn) ∷ entries) more = ap (λ l. event.Opens conn ∷ l) (events_in-append entries more)
events_in-append (entry.Took (event.Piece conn bytes) ∷ entries) more = ap (λ l. event.Piece conn bytes ∷ l) (events_in-append entries more)
events_in-append (entry.Took (event.Closes conn) ∷ entries) more = ap (λ l. event.Closes conn ∷ l) (events_in-append entries more)
events_in-append (entry.Took event.Settles ∷ entries) more = ap (λ l. event.Settles ∷ l) (events_in-append entries more)
events_in-append (entry.Gave conn bytes gone ∷ entries) more = events_in-append entries more

pub pieces_in-append : (entries more : List Entry) → pieces_in (entries ++ more) ≡ pieces_in entries ++ pieces_in more
pieces_in-append [] more = refl
pieces_in-append (entry.Took event ∷ entries) more = pieces_in-append entries more
pieces_in-append (entry.Gave conn bytes gone ∷ entries) more =
    ap (λ l. record { conn = conn; bytes = bytes; gone = gone } ∷ l) (pieces_in-append entries more)

-- a journal that grew tells what it grew by
pub tells_more : (old new more : List Entry) → new ≡ old ++ more → Tells (told_by old) (told_by new) more
tells_more old new more grew = record {
  events = ap events_in grew ∙ events_in-append old more;
  pieces = ap pieces_in grew ∙ pieces_in-append old more;
  journal = grew;
}

pub tells_none : (old new : List Entry) → new ≡ old → Tells (told_by old) (told_by new) []
tells_none old new same = tells_more old new [] (same ∙ sym (append-nil old))

pub takes_noted : (old new : List Entry) (result : Result LinkEvent LinkFault) → new ≡ after_taking old result → Nexts (told_by old) (told_by new) result
takes_noted old new (Ok event) grew = tells_more old new _ grew
takes_noted old new (Err fault) same = tells_none old new same

-- a give that finds its connection gone gives no more than there is, and no give fails to take
planned_within : (fails : Bool) (at_call : Option ℕ) (length count : ℕ) → (if fails then Err WriteFault else Ok (given_of length at_call)) ≡ Ok (Gone count) → count ≤ length
planned_within true at_call length count is = cc
planned_within false None length count is = cc
planned_within false (Some n) length count is = let least : min n length ≡ count = cc in omega arith

planned_no_take : (fails : Bool) (given : Given) (fault : LinkFault) → (if fails then Err WriteFault else Ok given) ≡ Err fault → fault ≡ WriteFault
planned_no_take true given fault is = cc
planned_no_take false given fault is = cc

pub gives_noted : (script : Script) (conn : ℕ) (bytes : List ℕ) (old new : List Entry) (result : Result Given LinkFault) → AnswersAs (planned_give (length bytes) script) result → new ≡ after_giving conn bytes old result
    → Gives (told_by old) (told_by new) conn bytes result
gives_noted script conn bytes old new (Ok All) answer grew = tells_more old new _ grew
gives_noted script conn bytes old new (Ok (Gone count)) answer grew =
    (planned_within (fails_next script.plan) _ (length bytes) count answer, tells_more old new _ grew)
gives_noted script conn bytes old new (Err WriteFault) answer same = ([], (bytes, refl), tells_none old new same)
gives_noted script conn bytes old new (Err Memory) answer same = ([], (bytes, refl), tells_none old new same)
gives_noted script conn bytes old new (Err ReadFault) answer same =
    let other : ReadFault ≡ WriteFault = planned_no_take (fails_next script.plan) _ ReadFault answer in cc
gives_noted script conn bytes old new (Err (Refused kind offset)) answer same =
    let other : Refused kind offset ≡ WriteFault = planned_no_take (fails_next script.plan) _ (Refused kind offset) answer in cc
