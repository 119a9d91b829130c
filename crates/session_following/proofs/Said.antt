-- What is said of a run that follows, from what the code tests.
use Rattle.std.proofs.Common.{◌≢◌}
use Rattle.session_following.proofs.Terms.{Bool, List, None, Option, Some, ap, arith, false, inl, inr, refl, subst, sym, true, ℕ, ◌∙◌, ◌≡◌, ◌≤◌, ◌⊎◌, cases_eq, false≢true, IfSome_then, last_or, IfSome, is_some, option_map, Item, AsksFor, Limits, Override, Path, Episode, AtExit, AtFailure, AtRequest, Finish, Handed, HasReached, IsPastFailure, IsStuck, Stand, plan_of, HandedOver, Place, StandKind, Exit, Failure, Request, EndsEarly, HasReachedFiles, IsAtFinish, IsInPlace, IsShort, IsUnlike, OtherPlace, IsLeast, HasFiles, IsBehind, IsElsewhere, IsJudgedAt, IsPastAs, IsThere, MayReach, kind_of}
use Rattle.session_following.specs.HandedOver.{finish_of, handed_of}
use Rattle.session_following.proofs.Agreement.{front_length, front_of}

-- where a record's last line is reached
behind_to : (finish : Option Place) (steps : ℕ) → IfSome (option_map finish_of finish) (λ f. f.steps ≤ steps) → IsBehind finish steps
behind_to None steps is = tt
behind_to (Some place) steps is = is

behind_from : (finish : Option Place) (steps : ℕ) → IsBehind finish steps → IfSome (option_map finish_of finish) (λ f. f.steps ≤ steps)
behind_from None steps is = tt
behind_from (Some place) steps is = is

-- being past a failure by how a run stands
past_as : {limits : Limits} {plan : List Override} {path : Path} (stand : Stand limits plan path) (episode : Episode) → IsPastFailure stand episode → IsPastAs (kind_of stand) path.state.machine.taken episode
past_as (AtRequest asks) episode past = past
past_as (AtExit ended) episode past = tt
past_as (AtFailure cause fails) episode past = past

as_past : {limits : Limits} {plan : List Override} {path : Path} (stand : Stand limits plan path) (episode : Episode) → IsPastAs (kind_of stand) path.state.machine.taken episode → IsPastFailure stand episode
as_past (AtRequest asks) episode past = past
as_past (AtExit ended) episode past = tt
as_past (AtFailure cause fails) episode past = past

-- a run that asks for an item hasn't ended, so however it stands there, it is past what one that asks is
past_other : {limits : Limits} {plan : List Override} {path : Path} (item : ℕ) → AsksFor limits plan path item → (other : Stand limits plan path) (episode : Episode) → IsPastFailure other episode → IsPastAs Request path.state.machine.taken episode
past_other item asks (AtRequest more) episode past = past
past_other item asks (AtExit ended) episode past = absurd (false≢true (sym (ap (λ (o : Option ℕ). is_some o) asks.lives) ∙ ended))
past_other item asks (AtFailure cause fails) episode past = omega (arith, past)

-- what the code tests is what the files tell
files_to : {limits : Limits} {items : List Item} (handed : HandedOver) {path : Path} {stand : Stand limits (plan_of limits.keep handed.episodes.now) path} {missing : List ℕ} {kind : StandKind} {taken steps chosen : ℕ} {stuck : Bool}
    → IsJudgedAt limits items (handed_of handed) path stand missing kind taken steps chosen stuck → HasReachedFiles limits (handed_of handed) path stand → HasFiles handed kind taken steps chosen
files_to handed {path = path} {stand = stand} {kind = kind} {taken = taken} at files = record {
  past =
      subst (λ (k : StandKind). IfSome (last_or None handed.episodes.now) (IsPastAs k taken)) at.kind_is
      (subst (λ (n : ℕ). IfSome (last_or None handed.episodes.now) (IsPastAs (kind_of stand) n)) at.taken_are (IfSome_then (last_or None handed.episodes.now) files.past (past_as stand)));
  chose = let few = front_length handed.choices.now path.choices files.chose in omega (arith, few, at.chosen_are);
  finished = subst (λ (n : ℕ). IsBehind handed.finish n) at.steps_are (behind_to handed.finish path.steps files.finished);
}

files_from : {limits : Limits} {items : List Item} (handed : HandedOver) {path : Path} {stand : Stand limits (plan_of limits.keep handed.episodes.now) path} {missing : List ℕ} {kind : StandKind} {taken steps chosen : ℕ} {stuck : Bool}
    → IsJudgedAt limits items (handed_of handed) path stand missing kind taken steps chosen stuck → HasFiles handed kind taken steps chosen → HasReachedFiles limits (handed_of handed) path stand
files_from handed {path = path} {stand = stand} {kind = kind} {taken = taken} at files = record {
  past =
      IfSome_then (last_or None handed.episodes.now)
      (subst (λ (n : ℕ). IfSome (last_or None handed.episodes.now) (IsPastAs (kind_of stand) n)) (sym at.taken_are)
      (subst (λ (k : StandKind). IfSome (last_or None handed.episodes.now) (IsPastAs k taken)) (sym at.kind_is) files.past))
      (as_past stand);
  chose = front_of handed.choices.now path.choices at.agree (omega (arith, files.chose, at.chosen_are));
  finished = behind_from handed.finish path.steps (subst (λ (n : ℕ). IsBehind handed.finish n) (sym at.steps_are) files.finished);
}

-- where the record's last line says that it stands, and where it doesn't
record IsAway (handed : Handed) (path : Path) : Type 0 where
  finish : Finish
  is : handed.finish ≡ Some finish
  behind : finish.steps ≤ path.steps
  apart : ¬ IsAtFinish handed path finish

away : (handed : Handed) (path : Path) (finish : Option Place) → handed.finish ≡ option_map finish_of finish → IsElsewhere finish path.state.machine.taken path.steps → IsAway handed path
away handed path None is elsewhere = absurd elsewhere
away handed path (Some place) is elsewhere = record { finish = finish_of place; is = is; behind = elsewhere.0; apart = λ at. elsewhere.1 (at.1, at.2) }

there : (handed : Handed) (path : Path) (finish : Option Place) → handed.finish ≡ option_map finish_of finish → IsThere finish path.state.machine.taken path.steps → (one : Finish) × IsAtFinish handed path one
there handed path None is at = absurd at
there handed path (Some place) is at = (finish_of place, (is, at.0, at.1))

both_or : (place : Place) (taken steps : ℕ) → place.steps ≤ steps → (IsElsewhere (Some place) taken steps → ⊥) → (steps ≡ place.steps) × (taken ≡ place.taken)
both_or place taken steps behind never =
    elim (cases_eq steps place.steps) [
      | inl same ↦
          elim (cases_eq taken place.taken) [
            | inl also ↦ (same, also)
            | inr other ↦ absurd (never (behind, λ both. other both.1))
          ]
      | inr other ↦ absurd (never (behind, λ both. other both.0))
    ]

at_place : (handed : Handed) (path : Path) (finish : Option Place) → handed.finish ≡ option_map finish_of finish → (IsElsewhere finish path.state.machine.taken path.steps → ⊥) → (one : Finish) → handed.finish ≡ Some one → one.steps ≤ path.steps
    → IsAtFinish handed path one
at_place handed path None is never one told behind = absurd (let e : None ≡ Some one = sym is ∙ told in cc)
at_place handed path (Some place) is never one told behind =
    let e : Some (finish_of place) ≡ Some one = sym is ∙ told in
    let same : finish_of place ≡ one = cc in
    let steps : place.steps ≡ one.steps = ap (λ (f : Finish). f.steps) same in
    let taken : place.taken ≡ one.taken = ap (λ (f : Finish). f.taken) same in
    let both = both_or place path.state.machine.taken path.steps (omega (arith, steps, behind)) never in
    (told, both.0 ∙ steps, both.1 ∙ taken)

-- it stands at its request where it isn't stuck
kind_request : (kind : StandKind) (stuck : Bool) → stuck ≡ false → (kind ≢ Request → stuck ≡ true) → kind ≡ Request
kind_request Request stuck is at_end = refl
kind_request Exit stuck is at_end = absurd (false≢true (sym is ∙ at_end (λ (e : Exit ≡ Request). absurd (cc e))))
kind_request Failure stuck is at_end = absurd (false≢true (sym is ∙ at_end (λ (e : Failure ≡ Request). absurd (cc e))))

asks_of : {limits : Limits} {plan : List Override} {path : Path} (stand : Stand limits plan path) → kind_of stand ≡ Request → AsksFor limits plan path path.state.machine.taken
asks_of (AtRequest asks) is = asks
asks_of (AtExit ended) is = absurd (cc is)
asks_of (AtFailure cause fails) is = absurd (cc is)

module _ {limits : Limits} {items : List Item} (handed : HandedOver) {path : Path} {stand : Stand limits (plan_of limits.keep handed.episodes.now) path} {missing : List ℕ} {kind : StandKind} {taken steps chosen : ℕ} {stuck : Bool} where
  -- where it stands elsewhere than the last line says
  pub said_place : IsJudgedAt limits items (handed_of handed) path stand missing kind taken steps chosen stuck → IsElsewhere handed.finish taken steps → ¬ HasReached limits (handed_of handed) path stand → IsUnlike limits items (handed_of handed) path
  said_place at elsewhere never =
      let e = away (handed_of handed) path handed.finish refl (subst (λ (n : ℕ). IsElsewhere handed.finish n path.steps) (sym at.taken_are) (subst (λ (n : ℕ). IsElsewhere handed.finish taken n) (sym at.steps_are) elsewhere)) in
      OtherPlace e.finish stand e.is e.behind e.apart never

  -- it hasn't reached what was handed over where it hasn't reached what the files tell, or a client lacks bytes
  pub never_early : IsJudgedAt limits items (handed_of handed) path stand missing kind taken steps chosen stuck → ¬ HasFiles handed kind taken steps chosen → ¬ HasReached limits (handed_of handed) path stand
  never_early at less reached = less (files_to handed at (record { past = reached.past; chose = reached.chose; finished = reached.finished }))

  pub never_lack : IsJudgedAt limits items (handed_of handed) path stand missing kind taken steps chosen stuck → (conn : ℕ) → IsLeast missing (Some conn) → ¬ HasReached limits (handed_of handed) path stand
  never_lack at conn least reached = let some = least.0 in let lacks = at.missing_are conn in let covers = reached.covers conn in omega (arith, some, lacks, covers)

  -- where it can't go on, and hasn't reached what the files tell
  pub said_early : IsJudgedAt limits items (handed_of handed) path stand missing kind taken steps chosen stuck → stuck ≡ true → ¬ HasFiles handed kind taken steps chosen → IsUnlike limits items (handed_of handed) path
  said_early at is less = EndsEarly stand (at.is_stuck is) (λ files. less (files_to handed at files))

  -- where a client lacks bytes, and it has
  said_short : IsJudgedAt limits items (handed_of handed) path stand missing kind taken steps chosen stuck → HasFiles handed kind taken steps chosen → (conn : ℕ) → IsLeast missing (Some conn)
      → IsStuck items stand ⊎ ((finish : Finish) × IsAtFinish (handed_of handed) path finish) → IsShort limits items (handed_of handed) path conn
  said_short at files conn least last = record {
    stand = stand;
    last = last;
    files = files_from handed at files;
    more = let some = least.0 in let is = at.missing_are conn in omega (arith, some, is);
    first = λ other below. let never = least.1 other below in let is = at.missing_are other in omega (arith, never, is);
  }

  -- it stands where the last line says, if at it or behind it
  in_place : IsJudgedAt limits items (handed_of handed) path stand missing kind taken steps chosen stuck → ¬ IsElsewhere handed.finish taken steps → IsInPlace (handed_of handed) path
  in_place at never =
      at_place (handed_of handed) path handed.finish refl
      (λ elsewhere. never (subst (λ (n : ℕ). IsElsewhere handed.finish taken n) at.steps_are (subst (λ (n : ℕ). IsElsewhere handed.finish n path.steps) at.taken_are elsewhere)))

  pub said_stuck : IsJudgedAt limits items (handed_of handed) path stand missing kind taken steps chosen stuck → stuck ≡ true → ¬ IsElsewhere handed.finish taken steps → HasFiles handed kind taken steps chosen → (conn : ℕ)
      → IsLeast missing (Some conn) → IsShort limits items (handed_of handed) path conn × IsInPlace (handed_of handed) path
  said_stuck at is never files conn least = (said_short at files conn least (inl (at.is_stuck is)), in_place at never)

  pub said_there : IsJudgedAt limits items (handed_of handed) path stand missing kind taken steps chosen stuck → IsThere handed.finish taken steps → ¬ IsElsewhere handed.finish taken steps → HasFiles handed kind taken steps chosen
      → (conn : ℕ) → IsLeast missing (Some conn) → IsShort limits items (handed_of handed) path conn × IsInPlace (handed_of handed) path
  said_there at is never files conn least = (
    said_short at files conn least
        (inr (there (handed_of handed) path handed.finish refl (subst (λ (n : ℕ). IsThere handed.finish n path.steps) (sym at.taken_are) (subst (λ (n : ℕ). IsThere handed.finish taken n) (sym at.steps_are) is)))),
    in_place at never,
  )

  -- where it may go on
  may_reach : IsJudgedAt limits items (handed_of handed) path stand missing kind taken steps chosen stuck → stuck ≡ false → ¬ IsElsewhere handed.finish taken steps
      → ((other : Stand limits (plan_of limits.keep handed.episodes.now) path) → ¬ HasReached limits (handed_of handed) path other) → MayReach limits (handed_of handed) path stuck
  may_reach at is never not_yet = record {
    not_yet = not_yet;
    goes_on = is;
    place = in_place at never;
  }

  pub may_early : IsJudgedAt limits items (handed_of handed) path stand missing kind taken steps chosen stuck → stuck ≡ false → ¬ IsElsewhere handed.finish taken steps → ¬ HasFiles handed kind taken steps chosen → MayReach limits (handed_of handed) path stuck
  may_early at is never less =
      let request : kind ≡ Request = kind_request kind stuck is at.at_end in
      let asks = asks_of stand (at.kind_is ∙ request) in
      may_reach at is never
      (λ other reached. less (record {
        past =
            subst (λ (k : StandKind). IfSome (last_or None handed.episodes.now) (IsPastAs k taken)) (sym request)
            (subst (λ (n : ℕ). IfSome (last_or None handed.episodes.now) (IsPastAs Request n)) at.taken_are (IfSome_then (last_or None handed.episodes.now) reached.past (past_other path.state.machine.taken asks other)));
        chose = let few = front_length handed.choices.now path.choices reached.chose in let many = at.chosen_are in omega (arith, few, many);
        finished = subst (λ (n : ℕ). IsBehind handed.finish n) at.steps_are (behind_to handed.finish path.steps reached.finished);
      }))

  pub may_lack : IsJudgedAt limits items (handed_of handed) path stand missing kind taken steps chosen stuck → stuck ≡ false → ¬ IsElsewhere handed.finish taken steps → (conn : ℕ) → IsLeast missing (Some conn) → MayReach limits (handed_of handed) path stuck
  may_lack at is never conn least = may_reach at is never (λ other reached. let some = least.0 in let lacks = at.missing_are conn in let covers = reached.covers conn in omega (arith, some, lacks, covers))
