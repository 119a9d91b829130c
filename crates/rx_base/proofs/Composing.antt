-- What several calls on the outside do, one after another.
use Rattle.std.proofs.Common.{List, None, Option, Some, [], ap, append-nil, append_assoc, arith, inl, inr, refl, sym, ℕ, ◌++◌, ◌∙◌, ◌≤◌}
use Rattle.std.proofs.KnownBytes.{Appends-kept, Appends-nil, Appends-trans}
use Rattle.std.specs.Io.KnownBytes.{Appends, Keeps}
use Rattle.rx_base.specs.Outside.{Stream, Took}
use Rattle.rx_base.specs.Faults.{Rose}

-- no byte was taken
pub took_nothing : (source : Option Stream) → Took source source []
took_nothing None = tt
took_nothing (Some stream) = (sym (append-nil stream.taken), refl)

-- bytes were taken, and then more
pub took_more : (old mid new : Option Stream) (bytes more : List ℕ) → Took old mid bytes → Took mid new more → Took old new (bytes ++ more)
took_more None mid new bytes more first second = tt
took_more (Some old) None new bytes more first second = absurd first
took_more (Some old) (Some mid) None bytes more first second = absurd second
took_more (Some old) (Some mid) (Some new) bytes more first second = (
  second.0 ∙ ap (λ l. l ++ more) first.0 ∙ append_assoc old.taken bytes more,
  first.1 ∙ ap (λ l. bytes ++ l) second.1 ∙ sym (append_assoc bytes more new.left),
)

-- bytes were taken, and then a call took none
pub took_same : (old mid new : Option Stream) (bytes : List ℕ) → Took old mid bytes → Took mid new [] → Took old new bytes
took_same None mid new bytes first second = tt
took_same (Some old) None new bytes first second = absurd first
took_same (Some old) (Some mid) None bytes first second = absurd second
took_same (Some old) (Some mid) (Some new) bytes first second =
    (second.0 ∙ append-nil mid.taken ∙ first.0, first.1 ∙ ap (λ l. bytes ++ l) second.1)

-- nothing was given
pub gave_nothing : (sink : Option (List ℕ)) → Appends sink sink []
gave_nothing sink = Appends-nil sink

-- bytes were given, and then more
pub gave_more : (old mid new : Option (List ℕ)) (bytes more : List ℕ) → Appends old mid bytes → Appends mid new more → Appends old new (bytes ++ more)
gave_more old mid new bytes more first second = Appends-trans old mid new bytes more first second

-- bytes were given, and then a call gave none
pub gave_same : (old mid new : Option (List ℕ)) (bytes : List ℕ) → Appends old mid bytes → Keeps mid new → Appends old new bytes
gave_same old mid new bytes first second = Appends-kept old mid new bytes first second

-- a count that rose in a later part has risen in the whole
pub rose_later : (before mid now : ℕ) → before ≤ mid → Rose mid now → Rose before now
rose_later before mid now no_fall (inl less) = inl (omega arith)
rose_later before mid now no_fall (inr last) = inr last
