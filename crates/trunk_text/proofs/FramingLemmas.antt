-- A line that was taken, and what was written for it.
use Rattle.trunk_text.proofs.Terms.{List, Option, Some, [], append-nil, arith, inl, inr, length, refl, subst, sym, true, ℕ, ◌++◌, ◌+◌, ◌∷◌, ◌≡◌, ◌≤◌, ◌⊎◌, Appends, ⊤, gave_nothing, Stream, Took, MAX_LINE, Flaw, LongLine, Ended, Finished, Limit, Memory, ReadFault, Refused, WriteFault, Turn, frame_of, Breaks, EndsBy, IsGiven, Moved, TurnsBy, Frames, FramesFed, GivesFront, GivesLine, IsBadLine, IsLine, framing, is_bare}
use Rattle.trunk_text.proofs.TurnLemmas.{ends_as, turns_as, given_moved}

-- a line that is refused at the end of the input is refused where the end is told in another way
bad_as : (d e : Type 0) → (d → e) → (flaw : Flaw) (from : List ℕ) → IsBadLine d flaw from → IsBadLine e flaw from
bad_as d e drains flaw from (inl (line, is, refused, inl fed)) = inl (line, is, refused, inl fed)
bad_as d e drains flaw from (inl (line, is, refused, inr last)) = inl (line, is, refused, inr (last.0, drains last.1))
bad_as d e drains flaw from (inr long) = inr long

pub fed_turns : (old_in new_in : Option Stream) (old_out new_out : Option (List ℕ)) (e : Type 0) (at : ℕ) (turn : Turn) (line shown : List ℕ) → shown ≡ line → Took old_in new_in (line ++ 10 ∷ [])
    → TurnsBy framing (IsGiven (shown ++ 10 ∷ []) (Appends old_out new_out)) ⊥ at turn → TurnsBy framing (Moved old_in new_in old_out new_out) e at turn
fed_turns old_in new_in old_out new_out e at turn line shown is took turns =
    let P : List ℕ → Type 0 = λ l. Took old_in new_in (l ++ 10 ∷ []) in
    turns_as framing (IsGiven (shown ++ 10 ∷ []) (Appends old_out new_out)) (Moved old_in new_in old_out new_out) ⊥ e at turn (λ x. absurd x) (bad_as ⊥ e (λ x. absurd x))
    (given_moved old_in new_in old_out new_out (shown ++ 10 ∷ []) (subst P (sym is) took)) turns

pub last_ends : (old_in new_in : Option Stream) (old_out new_out : Option (List ℕ)) (e : Type 0) (at : ℕ) (ended : Ended) (line shown : List ℕ) → shown ≡ line → e → Took old_in new_in line
    → EndsBy framing (IsGiven shown (Appends old_out new_out)) ⊤ at ended → EndsBy framing (Moved old_in new_in old_out new_out) e at ended
last_ends old_in new_in old_out new_out e at ended line shown is drained took ends =
    ends_as framing (IsGiven shown (Appends old_out new_out)) (Moved old_in new_in old_out new_out) ⊤ e at ended (λ _. drained) (bad_as ⊤ e (λ _. drained))
    (given_moved old_in new_in old_out new_out shown (subst (Took old_in new_in) (sym is) took)) ends

pub long_ends : (old_in new_in : Option Stream) (sink : Option (List ℕ)) (e : Type 0) (at : ℕ) → (line : List ℕ) × (is_bare line ≡ true) × (length line ≡ MAX_LINE + 1) × Took old_in new_in line
    → EndsBy framing (Moved old_in new_in sink sink) e at (Refused LongLine at)
long_ends old_in new_in sink e at (line, bare, long, took) = (line, inr (refl, bare, long), refl, record { took = took; wrote = gave_nothing sink })

-- what was written for a line behind which nothing is turned, by how it ends
given_breaks : (Writes : List ℕ → Type 0) (line from : List ℕ) → IsLine line → ((to : List ℕ) → Frames line to → FramesFed from to ⊎ Frames from to) → GivesFront Writes line → Breaks framing (IsGiven from Writes)
given_breaks Writes line from is whole (says, front, said, begins, wrote) = (from, frame_of says, front, whole (frame_of says) (says, is, said, refl), begins, (refl, wrote))

given_ends : (Writes : List ℕ → Type 0) (line from end : List ℕ) (d : Type 0) (at : ℕ) (ended : Ended) → IsLine line → from ≡ line ++ end → length end ≤ 1
    → ((to : List ℕ) → Frames line to → FramesFed from to ⊎ Frames from to) → (from ≡ line ++ 10 ∷ []) ⊎ ((from ≡ line) × d) → GivesLine Writes line at (Some ended)
    → EndsBy framing (IsGiven from Writes) d at ended
given_ends Writes line from end d at Finished is made few whole how gives = absurd gives
given_ends Writes line from end d at (Refused flaw offset) is made few whole how (refused, same, wrote) = (from, inl (line, is, refused, how), same, (refl, wrote))
given_ends Writes line from end d at ReadFault is made few whole how gives = absurd gives
given_ends Writes line from end d at WriteFault is made few whole how gives = given_breaks Writes line from is whole gives
given_ends Writes line from end d at Limit is made few whole how gives = absurd gives
given_ends Writes line from end d at Memory is made few whole how (inl wrote) = inl (line, end, is, few, (sym made, wrote))
given_ends Writes line from end d at Memory is made few whole how (inr front) = inr (given_breaks Writes line from is whole front)

pub fed_ends : (Writes : List ℕ → Type 0) (line : List ℕ) (at : ℕ) (ended : Ended) → IsLine line → GivesLine Writes line at (Some ended) → EndsBy framing (IsGiven (line ++ 10 ∷ []) Writes) ⊥ at ended
fed_ends Writes line at ended is gives =
    given_ends Writes line (line ++ 10 ∷ []) (10 ∷ []) ⊥ at ended is refl (omega arith) (λ to frames. inl (line, refl, frames)) (inl refl) gives

pub lone_ends : (Writes : List ℕ → Type 0) (line : List ℕ) (at : ℕ) (ended : Ended) → IsLine line → GivesLine Writes line at (Some ended) → EndsBy framing (IsGiven line Writes) ⊤ at ended
lone_ends Writes line at ended is gives = given_ends Writes line line [] ⊤ at ended is (sym (append-nil line)) (omega arith) (λ to frames. inr frames) (inr (refl, tt)) gives
