-- What a run that follows has in common with the first host's run.
use Rattle.follow.proofs.Terms.{List, [], ap, arith, inl, inr, length, length-append, refl, subst, sym, take, ℕ, ◌++◌, ◌∙◌, ◌∷◌, ◌≡◌, ◌≤◌, ◌⊎◌, take-append-le, IfSome_then, Item, Prefix, sent_to, Choice, prefix_trans, output, Limits, Override, Path, Served, Later, until, Before, Behind, Compared, Equal, later_served, later_steps, asks_on, ended_on, fails_on, count_of, held, AtExit, AtFailure, AtRequest, Finish, HasReached, IsStuck, Stand, heard_first, passed_first, plan_in, stopped, AnswersAgree, FinishAgrees, HeldAtRelease, StuckHasReached}
use Rattle.follow.proofs.Fronts.{held_is_front}
use Rattle.follow.proofs.Runs.{choices_later, is_longer}
use Rattle.follow.proofs.Stamps.{held_is_fixed, stamps_are_safe}
use Rattle.follow.proofs.Reached.{front_length, beside, reached_there, reached_behind}

-- where a run can't go on, no other one goes on from there
stuck : (limits : Limits) (items heard : List Item) (plan : List Override) (path now : Path) (stand : Stand limits plan path) → IsStuck heard stand → now.state.machine.taken ≤ length heard → Later limits items plan path now → ⊥
stuck limits items heard plan path now (AtRequest asks) all few later = omega (arith, all, few, asks_on limits items plan path now path.state.machine.taken asks later)
stuck limits items heard plan path now (AtExit ended) all few later = ended_on limits items plan path now ended later
stuck limits items heard plan path now (AtFailure cause fails) all few later = fails_on limits items plan path now cause fails later

items_length : (items all : List Item) → Prefix items all → length items ≤ length all
items_length items all front = omega (arith, ap length (sym front.1), length-append items front.0)

pub stuck_has_reached : StuckHasReached
stuck_has_reached over path stand is followed all here = of_compared (beside over path is followed)
  where
    of_compared : Compared over.limits over.items (plan_in over) path (stopped over) → HasReached over.limits over.handed path stand
    of_compared (Equal same) = reached_there over path stand is same
    of_compared (Before later) =
        absurd (stuck over.limits over.items followed.heard (plan_in over) path (stopped over) stand here (omega (arith, is.account.taken, items_length (heard_first over) followed.heard all)) later)
    of_compared (Behind later) = reached_behind over path stand is later

-- of two fronts of one list one begins the other
fronts : (xs ys r s : List Choice) → xs ++ r ≡ ys ++ s → Prefix xs ys ⊎ Prefix ys xs
fronts [] ys r s same = inl (ys, refl)
fronts (x ∷ xs) [] r s same = inr (x ∷ xs, refl)
fronts (x ∷ xs) (y ∷ ys) r s same =
    let first : x ≡ y = cc in
    let rest : xs ++ r ≡ ys ++ s = cc in
    elim (fronts xs ys r s rest) [
      | inl front ↦ inl (front.0, ap (λ (c : Choice). c ∷ (xs ++ front.0)) first ∙ ap (λ (more : List Choice). y ∷ more) front.1)
      | inr front ↦ inr (front.0, ap (λ (c : Choice). c ∷ (ys ++ front.0)) (sym first) ∙ ap (λ (more : List Choice). x ∷ more) front.1)
    ]

pub answers_agree : AnswersAgree
answers_agree over path is followed = of_compared (beside over path is followed)
  where
    of_compared : Compared over.limits over.items (plan_in over) path (stopped over) → Prefix over.handed.choices path.choices ⊎ Prefix path.choices over.handed.choices
    of_compared (Equal same) = inl (subst (λ (p : Path). Prefix over.handed.choices p.choices) (sym same) is.handed_by.choices)
    of_compared (Before later) =
        let on = choices_later over.limits over.items (plan_in over) path (stopped over) (later_served over.limits over.items (plan_in over) path (stopped over) later) in
        fronts over.handed.choices path.choices is.handed_by.choices.0 on.0 (is.handed_by.choices.1 ∙ sym on.1)
    of_compared (Behind later) =
        inl (prefix_trans over.handed.choices (stopped over).choices path.choices is.handed_by.choices
        (choices_later over.limits over.items (plan_in over) (stopped over) path (later_served over.limits over.items (plan_in over) (stopped over) path later)))

pub finish_agrees : FinishAgrees
finish_agrees over path is followed = IfSome_then over.handed.finish is.handed_by.finish (λ finish here same. of_compared finish here same (beside over path is followed))
  where
    of_compared : (finish : Finish) → (finish.steps ≡ (stopped over).steps) × (finish.taken ≡ (stopped over).state.machine.taken) → path.steps ≡ finish.steps
        → Compared over.limits over.items (plan_in over) path (stopped over) → path.state.machine.taken ≡ finish.taken
    of_compared finish here same (Equal one) = ap (λ (p : Path). p.state.machine.taken) one ∙ sym here.1
    of_compared finish here same (Before later) = absurd (omega (arith, same, here.0, later_steps over.limits over.items (plan_in over) path (stopped over) later))
    of_compared finish here same (Behind later) = absurd (omega (arith, same, here.0, later_steps over.limits over.items (plan_in over) (stopped over) path later))

-- some first bytes of a front are those of the whole
same_front : (n : ℕ) (xs ys : List ℕ) → Prefix xs ys → n ≤ length xs → take n xs ≡ take n ys
same_front n xs ys front few = sym (take-append-le n xs front.0 few) ∙ ap (take n) front.1

-- what two runs hold of which one goes on as the other, and which both sent as much as the counts say
record HoldSame (counts : List (ℕ × ℕ)) (first second : Path) : Type 0 where
  bytes : (conn : ℕ) → take (count_of counts conn) (output first.state conn) ≡ take (count_of counts conn) (output second.state conn)
  in_time : (item conn : ℕ) → sent_to conn (until item (held counts first.state.sends)) ≡ sent_to conn (until item (held counts second.state.sends))

hold_same : (limits : Limits) (items : List Item) (plan : List Override) (first second : Path) (counts : List (ℕ × ℕ)) → Served limits items plan first second → ((conn : ℕ) → count_of counts conn ≤ length (output first.state conn)) → HoldSame counts first second
hold_same limits items plan first second counts served sent = record {
  bytes = λ conn. same_front (count_of counts conn) (output first.state conn) (output second.state conn) ((is_longer limits items plan first second served).outputs conn) (sent conn);
  in_time = λ item conn. sym (held_is_fixed limits items plan first second counts conn served (sent conn) item);
}

hold_turned : (counts : List (ℕ × ℕ)) (first second : Path) → HoldSame counts first second → HoldSame counts second first
hold_turned counts first second same = record { bytes = λ conn. sym (same.bytes conn); in_time = λ item conn. sym (same.in_time item conn) }

pub held_at_release : HeldAtRelease
held_at_release over path stand is followed reached =
    let same = of_compared (beside over path is followed) in (
      λ conn.
          held_is_front over.handed.counts path.state.sends conn ∙ same.bytes conn
          ∙ sym (same_front (count_of over.handed.counts conn) (sent_to conn (passed_first over)) (output (stopped over).state conn) (is.account.passed conn) (is.handed_by.counts conn)),
      λ state feasible.
          stamps_are_safe over.rules over.image over.session over.handed.counts state is.account
          (λ item low conn. subst (λ (bytes : List ℕ). Prefix bytes (sent_to conn (until item state.sends))) (same.in_time item conn) (feasible item low conn)),
    )
  where
    sent : (conn : ℕ) → count_of over.handed.counts conn ≤ length (output (stopped over).state conn)
    sent conn = omega (arith, is.handed_by.counts conn, front_length (sent_to conn (passed_first over)) (output (stopped over).state conn) (is.account.passed conn))

    of_compared : Compared over.limits over.items (plan_in over) path (stopped over) → HoldSame over.handed.counts path (stopped over)
    of_compared (Equal one) = subst (λ (p : Path). HoldSame over.handed.counts path p) one (record { bytes = λ conn. refl; in_time = λ item conn. refl })
    of_compared (Before later) = hold_same over.limits over.items (plan_in over) path (stopped over) over.handed.counts (later_served over.limits over.items (plan_in over) path (stopped over) later) reached.covers
    of_compared (Behind later) =
        hold_turned over.handed.counts (stopped over) path
        (hold_same over.limits over.items (plan_in over) (stopped over) path over.handed.counts (later_served over.limits over.items (plan_in over) (stopped over) path later) sent)
