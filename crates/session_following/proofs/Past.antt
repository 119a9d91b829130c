-- Whether a run is past the failure of the last episode.
use Rattle.session_following.proofs.Terms.{List, None, Option, get_or, leb, length, ltb, subst, sym, ℕ, ◌-◌, ◌≡◌, ◌≤◌, le-leb, leb-true, lt-ltb, ltb-true, last_or, IfSome, IsTrue, ◌↔◌, Episode, StandKind, Failure, Request, IsPastAs}
use Rattle.session_following.proofs.Placing.{last_is}

pub request_past : (episodes : List Episode) (episode : Episode) (kind : StandKind) (taken : ℕ) → 1 ≤ length episodes → episode ≡ get_or episodes (length episodes - 1) episode → kind ≡ Request
    → IsTrue (leb episode.point taken) ↔ IfSome (last_or None episodes) (IsPastAs kind taken)
request_past episodes episode kind taken some last is =
    subst (λ (k : StandKind). IsTrue (leb episode.point taken) ↔ IfSome (last_or None episodes) (IsPastAs k taken)) (sym is)
    (subst (λ (o : Option Episode). IsTrue (leb episode.point taken) ↔ IfSome o (IsPastAs Request taken)) (sym (last_is episodes episode some last)) (leb-true episode.point taken, le-leb episode.point taken))

pub failure_past : (episodes : List Episode) (episode : Episode) (kind : StandKind) (taken : ℕ) → 1 ≤ length episodes → episode ≡ get_or episodes (length episodes - 1) episode → kind ≡ Failure
    → IsTrue (ltb episode.point taken) ↔ IfSome (last_or None episodes) (IsPastAs kind taken)
failure_past episodes episode kind taken some last is =
    subst (λ (k : StandKind). IsTrue (ltb episode.point taken) ↔ IfSome (last_or None episodes) (IsPastAs k taken)) (sym is)
    (subst (λ (o : Option Episode). IsTrue (ltb episode.point taken) ↔ IfSome o (IsPastAs Failure taken)) (sym (last_is episodes episode some last)) (ltb-true episode.point taken, lt-ltb episode.point taken))
