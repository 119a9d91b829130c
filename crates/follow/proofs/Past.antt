-- A run that stands past the failure of an episode stands so wherever it goes on to, under wider limits too.
use Rattle.follow.proofs.Terms.{List, arith, inl, inr, subst, IsSome, Item, AsksFor, Limits, Override, Path, Served, later_of, Episode, taken_later, apart_asks_fails, apart_ended, asks_on, ended_on, AreWider, AtExit, AtFailure, AtRequest, IsPastFailure, Stand}
use Rattle.follow.proofs.Runs.{asks_wider}

-- where it has ended it is past every failure
pub past_exit : (limits : Limits) (plan : List Override) (path : Path) (episode : Episode) (stand : Stand limits plan path) → IsSome path.state.ended → IsPastFailure stand episode
past_exit limits plan path episode (AtRequest asks) ended = absurd (apart_ended path asks.lives ended)
past_exit limits plan path episode (AtExit was) ended = tt
past_exit limits plan path episode (AtFailure cause fails) ended = absurd (apart_ended path fails.lives ended)

pub past_on : (limits wider : Limits) (all : List Item) (plan : List Override) (begun path : Path) (episode : Episode) (stand : Stand limits plan begun) (next : Stand wider plan path)
    → AreWider limits wider → IsPastFailure stand episode → Served wider all plan begun path → IsPastFailure next episode
past_on limits wider all plan begun path episode (AtRequest asks) (AtRequest others) are past on = omega (arith, past, taken_later wider all plan begun path on)
past_on limits wider all plan begun path episode (AtRequest asks) (AtExit ended) are past on = tt
past_on limits wider all plan begun path episode (AtRequest asks) (AtFailure cause fails) are past on =
    let asked = asks_wider limits wider plan begun begun.state.machine.taken are asks in
    elim (later_of wider all plan begun path on) [
      | inl same ↦ absurd (apart_asks_fails wider plan path begun.state.machine.taken cause (subst (λ (p : Path). AsksFor wider plan p begun.state.machine.taken) same asked) fails)
      | inr later ↦ omega (arith, past, asks_on wider all plan begun path begun.state.machine.taken asked later)
    ]
past_on limits wider all plan begun path episode (AtExit ended) next are past on =
    elim (later_of wider all plan begun path on) [
      | inl same ↦ past_exit wider plan path episode next (subst (λ (p : Path). IsSome p.state.ended) same ended)
      | inr later ↦ absurd (ended_on wider all plan begun path ended later)
    ]
past_on limits wider all plan begun path episode (AtFailure cause fails) (AtRequest asks) are past on = omega (arith, past, taken_later wider all plan begun path on)
past_on limits wider all plan begun path episode (AtFailure cause fails) (AtExit ended) are past on = tt
past_on limits wider all plan begun path episode (AtFailure cause fails) (AtFailure other also) are past on = omega (arith, past, taken_later wider all plan begun path on)
