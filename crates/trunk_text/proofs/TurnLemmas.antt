-- What was taken and written of whole lines or frames, and of one more.
use Rattle.std.proofs.lemmas.List.Concat.{flat_map-append}
use Rattle.rx_base.specs.declared.fault.IoFault.TheVariants as io
use Rattle.trunk_text.proofs.Terms.{List, Option, [], ap, append-nil, arith, flat_map, inl, inr, length, length-append, refl, subst, sym, ℕ, ◌++◌, ◌+◌, ◌∙◌, ◌∷◌, ◌≡◌, All-nil, All-push, Appends, IoFault, gave_more, gave_nothing, took_more, took_nothing, Stream, Took, Flaw, Ended, Finished, Limit, Memory, ReadFault, Refused, WriteFault, Turn, Ends, More, Breaks, EndsBy, Goes, IsGiven, Loses, Moved, Pair, Turned, TurnsBy, Way}
use Rattle.trunk_text.specs.Streams.{read_ended}

-- nothing was turned, and nothing was moved
pub turned_nothing : (way : Way) → Turned way [] []
turned_nothing way = record { pairs = []; each = All-nil (λ (pair : Pair). way.Turns pair.from pair.to); from_is = refl; to_is = refl }

pub moved_nothing : (source : Option Stream) (sink : Option (List ℕ)) → Moved source source sink sink [] []
moved_nothing source sink = record { took = took_nothing source; wrote = gave_nothing sink }

-- one more line or frame behind those that were turned
one_more : (get : Pair → List ℕ) (pairs : List Pair) (pair : Pair) (all : List ℕ) → all ≡ flat_map get pairs → all ++ get pair ≡ flat_map get (pairs ++ pair ∷ [])
one_more get pairs pair all is = ap (λ l. l ++ get pair) is ∙ sym (flat_map-append get pairs (pair ∷ []) ∙ ap (λ l. flat_map get pairs ++ l) (append-nil (get pair)))

pub turned_more : (way : Way) (from to more out : List ℕ) → Turned way from to → way.Turns more out → Turned way (from ++ more) (to ++ out)
turned_more way from to more out turned one =
    let pair : Pair = record { from = more; to = out } in record {
      pairs = turned.pairs ++ pair ∷ [];
      each = All-push (λ (pair : Pair). way.Turns pair.from pair.to) turned.pairs pair turned.each one;
      from_is = one_more (λ (pair : Pair). pair.from) turned.pairs pair from turned.from_is;
      to_is = one_more (λ (pair : Pair). pair.to) turned.pairs pair to turned.to_is;
    }

pub moved_more : (old_in mid_in new_in : Option Stream) (old_out mid_out new_out : Option (List ℕ)) (from to more out : List ℕ) → Moved old_in mid_in old_out mid_out from to
    → Moved mid_in new_in mid_out new_out more out → Moved old_in new_in old_out new_out (from ++ more) (to ++ out)
moved_more old_in mid_in new_in old_out mid_out new_out from to more out first second = record {
  took = took_more old_in mid_in new_in from more first.took second.took;
  wrote = gave_more old_out mid_out new_out to out first.wrote second.wrote;
}

-- what was taken and written is told in another way
loses_as : (IsPart M N : List ℕ → Type 0) (fault : IoFault) → ((from : List ℕ) → M from → N from) → Loses IsPart M fault → Loses IsPart N fault
loses_as IsPart M N io.Failed as_other (part, is, taken) = (part, is, as_other part taken)
loses_as IsPart M N io.Memory as_other (part, more, is, few, taken) = (part, more, is, few, as_other (part ++ more) taken)

breaks_as : (way : Way) (M N : List ℕ → List ℕ → Type 0) → ((from to : List ℕ) → M from to → N from to) → Breaks way M → Breaks way N
breaks_as way M N as_other (from, to, front, whole, begins, moved) = (from, to, front, whole, begins, as_other from front moved)

pub ends_as : (way : Way) (M N : List ℕ → List ℕ → Type 0) (d e : Type 0) (at : ℕ) (ended : Ended) → (d → e) → ((flaw : Flaw) (from : List ℕ) → way.IsBad d flaw from → way.IsBad e flaw from)
    → ((from to : List ℕ) → M from to → N from to) → EndsBy way M d at ended → EndsBy way N e at ended
ends_as way M N d e at Finished drains bad as_other (from, to, last, drained, moved) = (from, to, last, drains drained, as_other from to moved)
ends_as way M N d e at (Refused flaw offset) drains bad as_other (from, is, same, moved) = (from, bad flaw from is, same, as_other from [] moved)
ends_as way M N d e at ReadFault drains bad as_other lost = loses_as way.IsPart (λ from. M from []) (λ from. N from []) io.Failed (λ from. as_other from []) lost
ends_as way M N d e at WriteFault drains bad as_other broke = breaks_as way M N as_other broke
ends_as way M N d e at Limit drains bad as_other (from, past, moved) = (from, past, as_other from [] moved)
ends_as way M N d e at Memory drains bad as_other (inl lost) = inl (loses_as way.IsPart (λ from. M from []) (λ from. N from []) io.Memory (λ from. as_other from []) lost)
ends_as way M N d e at Memory drains bad as_other (inr broke) = inr (breaks_as way M N as_other broke)

pub turns_as : (way : Way) (M N : List ℕ → List ℕ → Type 0) (d e : Type 0) (at : ℕ) (turn : Turn) → (d → e) → ((flaw : Flaw) (from : List ℕ) → way.IsBad d flaw from → way.IsBad e flaw from)
    → ((from to : List ℕ) → M from to → N from to) → TurnsBy way M d at turn → TurnsBy way N e at turn
turns_as way M N d e at (More now) drains bad as_other (from, to, turns, counted, moved) = (from, to, turns, counted, as_other from to moved)
turns_as way M N d e at (Ends ended) drains bad as_other ends = ends_as way M N d e at ended drains bad as_other ends

-- bytes were taken before, and others were written for them
pub given_moved : (old_in new_in : Option Stream) (old_out new_out : Option (List ℕ)) (bytes : List ℕ) → Took old_in new_in bytes → (from to : List ℕ) → IsGiven bytes (Appends old_out new_out) from to
    → Moved old_in new_in old_out new_out from to
given_moved old_in new_in old_out new_out bytes took from to (is, wrote) = record { took = subst (Took old_in new_in) (sym is) took; wrote = wrote }

-- only a part was taken
pub lost_ends : (way : Way) (old_in new_in : Option Stream) (sink : Option (List ℕ)) (d : Type 0) (at : ℕ) (fault : IoFault) → Loses way.IsPart (Took old_in new_in) fault
    → EndsBy way (Moved old_in new_in sink sink) d at (read_ended fault)
lost_ends way old_in new_in sink d at io.Failed (part, is, took) = (part, is, record { took = took; wrote = gave_nothing sink })
lost_ends way old_in new_in sink d at io.Memory (part, more, is, few, took) = inl (part, more, is, few, record { took = took; wrote = gave_nothing sink })

-- the end behind what was turned before
pub goes_end : (way : Way) (old_in mid_in new_in : Option Stream) (old_out mid_out new_out : Option (List ℕ)) (d : Type 0) (at : ℕ) (from to : List ℕ) (ended : Ended) → Turned way from to
    → Moved old_in mid_in old_out mid_out from to → at ≡ length from → EndsBy way (Moved mid_in new_in mid_out new_out) d at ended → Goes way (Moved old_in new_in old_out new_out) d ended
goes_end way old_in mid_in new_in old_out mid_out new_out d at from to ended turned moved counted ends =
    let P : ℕ → Type 0 = λ n. EndsBy way (λ more out. Moved old_in new_in old_out new_out (from ++ more) (to ++ out)) d n ended in (
      from,
      to,
      turned,
      subst P counted
          (ends_as way (Moved mid_in new_in mid_out new_out) (λ more out. Moved old_in new_in old_out new_out (from ++ more) (to ++ out)) d d at ended (λ x. x) (λ flaw from x. x)
          (λ more out later. moved_more old_in mid_in new_in old_out mid_out new_out from to more out moved later) ends),
    )

pub counted_more : (at now : ℕ) (from more : List ℕ) → at ≡ length from → now ≡ at + length more → now ≡ length (from ++ more)
counted_more at now from more counted on = omega (arith, counted, on, length-append from more)
