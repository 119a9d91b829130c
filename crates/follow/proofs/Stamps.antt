-- What clients hold was passed, and was sent no later.
use Rattle.session_history.proofs.Connected.{run_connected}
use Rattle.follow.proofs.Terms.{Bool, List, [], ap, append-nil, append_assoc, cond, false, inl, inr, leb, length, refl, subst, sym, take, true, ℕ, ◌++◌, ◌-◌, ◌∙◌, ◌∷◌, ◌≡◌, cases_lt, leb-false, take-append-le, filter-append, Prefix, Send, sent_to, prefix_sent, prefix_trans, sent_to-append, served_is_run, output, served_grows, all_until, none_until, until_front, journal_of, items_in, received, AreBetween, AreInOrder, passed_in, until, timed_from, count_of, held, held_behind, HeldIsFixed, HeldIsInOrder, HeldIsPassed, PassedIsSent, StampsAreSafe}
use Rattle.follow.proofs.Fronts.{held_is_front, none_behind, part_behind, take_two}

-- what is held of more sends
held-append : (counts : List (ℕ × ℕ)) (before sends more : List Send) → held_behind counts before (sends ++ more) ≡ held_behind counts before sends ++ held_behind counts (before ++ sends) more
held-append counts before [] more = ap (λ (bs : List Send). held_behind counts bs more) (sym (append-nil before))
held-append counts before (send ∷ sends) more =
    ap (λ (rest : List Send). part_behind counts before send ∷ rest)
    (held-append counts (before ++ send ∷ []) sends more ∙ ap (λ (bs : List Send). held_behind counts (before ++ send ∷ []) sends ++ held_behind counts bs more) (append_assoc before (send ∷ []) sends))

pub held_is_fixed : HeldIsFixed
held_is_fixed limits items plan first second counts conn served full item =
    let grows = served_grows limits items plan first second served in
    ap (λ (sends : List Send). sent_to conn (until item (held counts sends))) grows.sends
    ∙ ap (λ (sends : List Send). sent_to conn (until item sends)) (held-append counts [] first.state.sends grows.more)
    ∙ ap (sent_to conn) (filter-append _ (held counts first.state.sends) (held_behind counts first.state.sends grows.more))
    ∙ sent_to-append conn (until item (held counts first.state.sends)) (until item (held_behind counts first.state.sends grows.more))
    ∙ ap (λ (bytes : List ℕ). sent_to conn (until item (held counts first.state.sends)) ++ bytes) (none_behind counts first.state.sends grows.more item conn full)
    ∙ append-nil (sent_to conn (until item (held counts first.state.sends)))

pub held_is_passed : HeldIsPassed
held_is_passed rules image session counts conn account few =
    let passed = sent_to conn (passed_in rules.bounds (journal_of session)) in
    let front = account.passed conn in
    held_is_front counts session.survivor.now.state.sends conn ∙ ap (take (count_of counts conn)) (sym front.1) ∙ take-append-le (count_of counts conn) passed front.0 few

pub passed_is_sent : PassedIsSent
passed_is_sent rules image session item conn account =
    let now = session.survivor.now in
    let pieces = passed_in rules.bounds (journal_of session) in
    elim (cases_lt item now.state.machine.taken) [
      | inl early ↦ account.feasible item early conn
      | inr late ↦
          let timed = timed_from rules.limits (items_in rules.bounds (journal_of session)) session.survivor.plan image now account.served in
          subst (λ (sends : List Send). Prefix (sent_to conn (until item pieces)) (sent_to conn sends)) (sym (all_until item 0 now.state.machine.taken now.state.sends late timed))
          (prefix_trans (sent_to conn (until item pieces)) (sent_to conn pieces) (output now.state conn)
          (prefix_sent conn (until item pieces) pieces (until_front item (received rules.bounds (journal_of session)) pieces account.ordered)) (account.passed conn))
    ]

-- what is held keeps its numbers of items
held_between : (counts : List (ℕ × ℕ)) (before sends : List Send) (low high : ℕ) → AreBetween low high sends → AreBetween low high (held_behind counts before sends)
held_between counts before [] low high are = tt
held_between counts before (send ∷ sends) low high are = (are.0, are.1, held_between counts (before ++ send ∷ []) sends low high are.2)

held_in_order : (counts : List (ℕ × ℕ)) (before sends : List Send) (high : ℕ) → AreInOrder high sends → AreInOrder high (held_behind counts before sends)
held_in_order counts before [] high are = tt
held_in_order counts before (send ∷ sends) high are =
    (held_between counts (before ++ send ∷ []) sends send.taken high are.0, are.1, held_in_order counts (before ++ send ∷ []) sends high are.2)

pub held_is_in_order : HeldIsInOrder
held_is_in_order limits items plan image path counts served =
    held_in_order counts [] path.state.sends path.state.machine.taken
    (run_connected image items path.choices served.more path.state (served_is_run limits image items plan path served.more served.ran)).ordered

-- so of sends in order what is held of those in time is what of all is held in time
until_held : (counts : List (ℕ × ℕ)) (before sends : List Send) (item high : ℕ) → AreInOrder high sends → until item (held_behind counts before sends) ≡ held_behind counts before (until item sends)
until_held counts before [] item high are = refl
until_held counts before (send ∷ sends) item high are = of (leb send.taken item) refl (until_held counts (before ++ send ∷ []) sends item high are.2)
  where
    of : (b : Bool) → leb send.taken item ≡ b → until item (held_behind counts (before ++ send ∷ []) sends) ≡ held_behind counts (before ++ send ∷ []) (until item sends)
        → cond b (part_behind counts before send ∷ until item (held_behind counts (before ++ send ∷ []) sends)) (until item (held_behind counts (before ++ send ∷ []) sends)) ≡ held_behind counts before (cond b (send ∷ until item sends) (until item sends))
    of true is rest = ap (λ (more : List Send). part_behind counts before send ∷ more) rest
    of false is rest =
        none_until item send.taken high (held_behind counts (before ++ send ∷ []) sends) (leb-false send.taken item is) (held_between counts (before ++ send ∷ []) sends send.taken high are.0)
        ∙ ap (held_behind counts before) (sym (none_until item send.taken high sends (leb-false send.taken item is) are.0))

in_time : (counts : List (ℕ × ℕ)) (sends : List Send) (item high conn : ℕ) → AreInOrder high sends → sent_to conn (until item (held counts sends)) ≡ take (count_of counts conn) (sent_to conn (until item sends))
in_time counts sends item high conn are = ap (sent_to conn) (until_held counts [] sends item high are) ∙ held_is_front counts (until item sends) conn

-- fewer bytes of a front are a front
take_front : (n : ℕ) (xs ys : List ℕ) → Prefix xs ys → Prefix (take n xs) (take n ys)
take_front n xs ys front = (take (n - length xs) front.0, sym (take_two n xs front.0) ∙ ap (take n) front.1)

pub stamps_are_safe : StampsAreSafe
stamps_are_safe rules image session counts state account feasible item low conn =
    let now = session.survivor.now in
    let pieces = passed_in rules.bounds (journal_of session) in
    let ordered = (run_connected image (items_in rules.bounds (journal_of session)) now.choices now.steps now.state account.ran).ordered in
    prefix_trans (sent_to conn (until item (held counts pieces))) (sent_to conn (until item (held counts now.state.sends))) (sent_to conn (until item state.sends))
    (subst (λ (bytes : List ℕ). Prefix bytes (sent_to conn (until item (held counts now.state.sends)))) (sym (in_time counts pieces item (received rules.bounds (journal_of session)) conn account.ordered))
    (subst (λ (bytes : List ℕ). Prefix (take (count_of counts conn) (sent_to conn (until item pieces))) bytes) (sym (in_time counts now.state.sends item now.state.machine.taken conn ordered))
    (take_front (count_of counts conn) (sent_to conn (until item pieces)) (sent_to conn (until item now.state.sends)) (passed_is_sent rules image session item conn account))))
    (feasible item low conn)
