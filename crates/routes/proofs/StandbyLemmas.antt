-- What is left of a record that was followed over a trunk, and served on, by what it leaves over a link.
use Rattle.links.specs.declared.journal.LinkEvent.TheVariants as event
use Rattle.run_history.specs.declared.answer.Answer.TheVariants as answer
use Rattle.routes.proofs.Terms.{Bool, List, None, Option, Some, [], ap, false, inl, inr, length, option_map, refl, subst, sym, true, ℕ, ◌++◌, ◌∙◌, ◌≡◌, Appends, IfSome, IsSome, Stream, Took, LinkEvent, Grew, IsFresh, IsNext, Piece, Refuses, Seen, Countable, count_after, frames, Intake, Output, TookFrames, WroteFrames, given_to, told_coming, told_events, told_pieces, Answer, LeavesLink, BreaksTrunk, TakesNoPart, WritesWhole, CarriesPieces, TakesFollowed, TakesServed, TakesWhole, TookFollowed}
use Rattle.routes.proofs.WriteLemmas.{Short, pieces_told}
use Rattle.routes.proofs.StopLemmas.{HasTaken, drained, took_refused, took_whole}
use Rattle.routes.proofs.ServeLemmas.{has_taken, upcoming}

-- what comes is told while events are taken, where the source tells its bytes
pub known_here : (intake : Intake) (before : Stream) → intake.told ≡ Some before → intake.takes ≡ true → IsSome (upcoming intake)
known_here intake before is takes = by intake.told intake.takes is takes
  where
    by : (told : Option Stream) (still : Bool) → told ≡ Some before → still ≡ true → IsSome (told_coming told intake.took intake.phases still intake.refused)
    by None still is takes = let never : ⊥ = cc in absurd never
    by (Some stream) true is takes = refl
    by (Some stream) false is takes = let never : ⊥ = cc in absurd never

-- so it is where it tells them since some time
pub known_since : {old mid : Intake} (before : Stream) → TookFrames old mid → old.told ≡ Some before → mid.takes ≡ true → IsSome (upcoming mid)
known_since {mid = mid} before went is takes = by mid.told mid.takes (subst (λ source. Took source mid.told (went.whole ++ went.tail)) is went.reads.took) takes
  where
    by : (told : Option Stream) (still : Bool) → Took (Some before) told (went.whole ++ went.tail) → still ≡ true → IsSome (told_coming told mid.took mid.phases still mid.refused)
    by None still took is = absurd took
    by (Some stream) true took is = refl
    by (Some stream) false took is = let never : ⊥ = cc in absurd never

module _ (old new : Intake) (list : List LinkEvent) (fresh : IsFresh old.phases) (none : old.took ≡ 0) (few : Countable new.told) (went : TookFrames old new)
    (grew : Grew (option_map (λ _. []) old.told) (told_events new.told new.took new.phases new.takes) list) where
  by_told : (P : Option Stream → Type 0) → P None → ((before : Stream) → old.told ≡ Some before → HasTaken new before list → P (Some before)) → P old.told
  by_told P untold told = by old.told refl grew
    where
      by : (before : Option Stream) → old.told ≡ before → Grew (option_map (λ _. []) before) (told_events new.told new.took new.phases new.takes) list → P before
      by None is grew = untold
      by (Some before) is grew = told before is (has_taken old new before list is fresh none few went grew)

  -- while it takes events, no byte behind their frames
  pub takes_whole : new.takes ≡ true → TakesWhole old.told new.told list
  takes_whole still = by_told (λ source. TakesWhole source new.told list) tt (λ before is taken. took_whole new before list taken still)

  no_part : new.takes ≡ true → TakesNoPart old.told new.told list
  no_part still = by_told (λ source. TakesNoPart source new.told list) tt (λ before is taken. inl (took_whole new before list taken still))

  -- what is refused, where that is told
  abbrev pub IsRefusedBy : Answer → Type 0
  IsRefusedBy end = (before : Stream) (kind offset : ℕ) → old.told ≡ Some before → end ≡ answer.InputRefused kind offset → IsSome (upcoming new) × IfSome (upcoming new) (λ next. next ≡ Refuses kind offset)

  -- by the answer
  took_end : (before : Stream) (first now : Seen) (end : Answer) → old.told ≡ Some before → HasTaken new before list → now.takes ≡ new.takes → LeavesLink first now end → IsRefusedBy end → TookFollowed (Some before) new.told list end
  took_end before first now (answer.InputRefused kind offset) is taken same leaves next =
      let refused = next before kind offset is refl in
      took_refused new before list kind offset few taken (sym same ∙ leaves.0) refused.0 refused.1
  took_end before first now answer.ReadFault is taken same leaves next = tt
  took_end before first now answer.Memory is taken same leaves next = tt
  took_end before first now answer.WriteFault is taken same leaves next = took_whole new before list taken (sym same ∙ leaves)
  took_end before first now _ is taken same leaves next = took_whole new before list taken (sym same ∙ leaves.0)

  pub takes_followed : (first now : Seen) (end : Answer) → now.takes ≡ new.takes → LeavesLink first now end → IsRefusedBy end → TakesFollowed old.told new.told list end
  takes_followed first now end same leaves next = by_told (λ source. TakesFollowed source new.told list end) tt (λ before is taken. took_end before first now end is taken same leaves next)

  -- at Finished no byte is left
  took_served : (before : Stream) (first now : Seen) (end : Answer) → old.told ≡ Some before → HasTaken new before list → now.takes ≡ new.takes → LeavesLink first now end → IsRefusedBy end
      → (end ≡ answer.Finished → IfSome (upcoming new) (λ next. IsNext next event.Ends)) → TakesServed (Some before) new.told list end
  took_served before first now answer.Finished is taken same leaves next ends =
      let still : new.takes ≡ true = sym same ∙ leaves.0 in
      (took_whole new before list taken still, drained new.told new.took new.phases new.takes new.refused still (ends refl))
  took_served before first now (answer.InputRefused kind offset) is taken same leaves next ends = took_end before first now (answer.InputRefused kind offset) is taken same leaves next
  took_served before first now answer.ReadFault is taken same leaves next ends = tt
  took_served before first now answer.Memory is taken same leaves next ends = tt
  took_served before first now answer.WriteFault is taken same leaves next ends = took_whole new before list taken (sym same ∙ leaves)
  took_served before first now _ is taken same leaves next ends = took_whole new before list taken (sym same ∙ leaves.0)

  pub takes_served : (first now : Seen) (end : Answer) → now.takes ≡ new.takes → LeavesLink first now end → IsRefusedBy end → (end ≡ answer.Finished → IfSome (upcoming new) (λ next. IsNext next event.Ends))
      → TakesServed old.told new.told list end
  takes_served first now end same leaves next ends = by_told (λ source. TakesServed source new.told list end) tt (λ before is taken. took_served before first now end is taken same leaves next ends)

  -- no frame was broken off on both sides
  pub breaks_end : (pieces : List Piece) (first now : Seen) (sink later : Option (List ℕ)) (end : Answer) → now.takes ≡ new.takes → LeavesLink first now end → (end ≡ answer.FileFault → ⊥) → (now.gives ≡ true → WritesWhole sink later pieces)
      → BreaksTrunk old.told new.told sink later list pieces end
  breaks_end pieces first now sink later answer.WriteFault same leaves other whole = no_part (sym same ∙ leaves)
  breaks_end pieces first now sink later answer.ReadFault same leaves other whole = whole leaves
  breaks_end pieces first now sink later answer.FileFault same leaves other whole = absurd (other refl)
  breaks_end pieces first now sink later answer.Memory same (inl takes) other whole = inl (no_part (sym same ∙ takes))
  breaks_end pieces first now sink later answer.Memory same (inr gave) other whole = inr (whole gave)
  breaks_end pieces first now sink later _ same leaves other whole = tt

-- the payload of what was written is what the pieces have
pub carries_pieces : (old new : Output) (list : List Piece) → old.wrote ≡ 0 → Short new.told → WroteFrames old new → Grew (option_map (λ _. []) old.told) (told_pieces new.told new.wrote new.gives) list
    → CarriesPieces old.told new.told list
carries_pieces old new list none few went grew = by old.told refl grew
  where
    by : (before : Option (List ℕ)) → old.told ≡ before → Grew (option_map (λ _. []) before) (told_pieces new.told new.wrote new.gives) list → CarriesPieces before new.told list
    by None is grew = tt
    by (Some before) is grew =
        let bytes : List ℕ = frames went.pieces ++ went.tail in
        let wrote : Appends (Some before) new.told bytes = subst (λ sink. Appends sink new.told bytes) is went.writes.wrote in
        let count : new.wrote ≡ count_after 0 (length bytes) = went.writes.count ∙ ap (λ n. count_after n (length bytes)) none in
        record { written = bytes; wrote = wrote; payload_is = λ conn. ap (given_to conn) (pieces_told before new.told new.wrote new.gives list bytes few wrote count grew) }
