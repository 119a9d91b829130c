-- What clients hold is a front of what was sent, and was sent in time.
use Rattle.std.proofs.Math.Seq.{take-append-add, take-nil}
use Rattle.follow.proofs.Terms.{Bool, List, [], ap, append-nil, append_assoc, arith, cond, drop, eqb, false, inl, inr, leb, length, length-append, refl, subst, sym, take, true, ℕ, ◌++◌, ◌+◌, ◌-◌, ◌<◌, ◌∙◌, ◌∷◌, ◌≡◌, ◌≤◌, cases_lt, eqb-true, take-append-drop, take-append-le, take_all, Prefix, Send, sent_to, sent_to-more, until, count_of, held_behind, HeldIsFront, HeldIsInTime}

-- the first bytes of two lists, one behind the other
pub take_two : (n : ℕ) (xs ys : List ℕ) → take n (xs ++ ys) ≡ take n xs ++ take (n - length xs) ys
take_two n xs ys =
    elim (cases_lt n (length xs)) [
      | inl few ↦
          let none : n - length xs ≡ 0 = omega (arith, few) in
          take-append-le n xs ys (omega (arith, few)) ∙ sym (append-nil (take n xs)) ∙ ap (λ (k : ℕ). take n xs ++ take k ys) (sym none)
      | inr all ↦
          let same : n ≡ length xs + (n - length xs) = omega (arith, all) in
          ap (λ (k : ℕ). take k (xs ++ ys)) same ∙ take-append-add xs ys (n - length xs) ∙ ap (λ (front : List ℕ). front ++ take (n - length xs) ys) (sym (take_all n xs all))
    ]

-- how many bytes were sent to a connection, with one more send
more_sent : (conn : ℕ) (before : List Send) (send : Send) (here : Bool) → eqb send.conn conn ≡ here → length (sent_to conn (before ++ send ∷ [])) ≡ length (sent_to conn before) + length (cond here send.bytes [])
more_sent conn before send here is =
    ap length (sent_to-more conn before send ∙ ap (λ (b : Bool). sent_to conn before ++ cond b send.bytes []) is) ∙ length-append (sent_to conn before) (cond here send.bytes [])

front_behind : (counts : List (ℕ × ℕ)) (before sends : List Send) (conn : ℕ) → sent_to conn (held_behind counts before sends) ≡ take (count_of counts conn - length (sent_to conn before)) (sent_to conn sends)
front_behind counts before [] conn = sym (take-nil (count_of counts conn - length (sent_to conn before)))
front_behind counts before (send ∷ sends) conn = of (eqb send.conn conn) refl (front_behind counts (before ++ send ∷ []) sends conn)
  where
    of : (here : Bool) → eqb send.conn conn ≡ here → sent_to conn (held_behind counts (before ++ send ∷ []) sends) ≡ take (count_of counts conn - length (sent_to conn (before ++ send ∷ []))) (sent_to conn sends)
        → cond here (take (count_of counts send.conn - length (sent_to send.conn before)) send.bytes) [] ++ sent_to conn (held_behind counts (before ++ send ∷ []) sends)
        ≡ take (count_of counts conn - length (sent_to conn before)) (cond here send.bytes [] ++ sent_to conn sends)
    of true is rest =
        let left : count_of counts conn - length (sent_to conn (before ++ send ∷ [])) ≡ (count_of counts conn - length (sent_to conn before)) - length send.bytes = omega (arith, more_sent conn before send true is) in
        ap (λ (to : ℕ). take (count_of counts to - length (sent_to to before)) send.bytes ++ sent_to conn (held_behind counts (before ++ send ∷ []) sends)) (eqb-true send.conn conn is)
        ∙ ap (λ (bytes : List ℕ). take (count_of counts conn - length (sent_to conn before)) send.bytes ++ bytes) (rest ∙ ap (λ (k : ℕ). take k (sent_to conn sends)) left)
        ∙ sym (take_two (count_of counts conn - length (sent_to conn before)) send.bytes (sent_to conn sends))
    of false is rest =
        let none : length (cond false send.bytes []) ≡ 0 = refl in
        let left : count_of counts conn - length (sent_to conn (before ++ send ∷ [])) ≡ count_of counts conn - length (sent_to conn before) = omega (arith, more_sent conn before send false is, none) in
        rest ∙ ap (λ (k : ℕ). take k (sent_to conn sends)) left

pub held_is_front : HeldIsFront
held_is_front counts sends conn =
    let whole : count_of counts conn - 0 ≡ count_of counts conn = omega arith in
    front_behind counts [] sends conn ∙ ap (λ (k : ℕ). take k (sent_to conn sends)) whole

-- as much of a send as is held of it behind others
abbrev pub part_behind : List (ℕ × ℕ) → List Send → Send → Send
part_behind counts before send = record send { bytes = take (count_of counts send.conn - length (sent_to send.conn before)) send.bytes }

-- behind as many bytes as the count nothing more is held
pub none_behind : (counts : List (ℕ × ℕ)) (before sends : List Send) (item conn : ℕ) → count_of counts conn ≤ length (sent_to conn before) → sent_to conn (until item (held_behind counts before sends)) ≡ []
none_behind counts before [] item conn full = refl
none_behind counts before (send ∷ sends) item conn full =
    of (leb send.taken item) (eqb send.conn conn) refl (λ more. none_behind counts (before ++ send ∷ []) sends item conn more)
  where
    of : (in_time here : Bool) → eqb send.conn conn ≡ here → (count_of counts conn ≤ length (sent_to conn (before ++ send ∷ [])) → sent_to conn (until item (held_behind counts (before ++ send ∷ []) sends)) ≡ [])
        → sent_to conn (cond in_time (part_behind counts before send ∷ until item (held_behind counts (before ++ send ∷ []) sends)) (until item (held_behind counts (before ++ send ∷ []) sends))) ≡ []
    of true true is rest =
        let none : count_of counts conn - length (sent_to conn before) ≡ 0 = omega (arith, full) in
        ap (λ (here : Bool). cond here (part_behind counts before send).bytes [] ++ sent_to conn (until item (held_behind counts (before ++ send ∷ []) sends))) is
        ∙ ap (λ (to : ℕ). take (count_of counts to - length (sent_to to before)) send.bytes ++ sent_to conn (until item (held_behind counts (before ++ send ∷ []) sends))) (eqb-true send.conn conn is)
        ∙ ap (λ (k : ℕ). take k send.bytes ++ sent_to conn (until item (held_behind counts (before ++ send ∷ []) sends))) none
        ∙ rest (omega (arith, full, more_sent conn before send true is))
    of true false is rest =
        ap (λ (here : Bool). cond here (part_behind counts before send).bytes [] ++ sent_to conn (until item (held_behind counts (before ++ send ∷ []) sends))) is
        ∙ rest (omega (arith, full, more_sent conn before send false is))
    of false here is rest = rest (omega (arith, full, more_sent conn before send here is))

-- a front of what comes behind the same bytes
front_then : (xs ys zs : List ℕ) → Prefix ys zs → Prefix (xs ++ ys) (xs ++ zs)
front_then xs ys zs front = (front.0, append_assoc xs ys front.0 ∙ ap (λ (more : List ℕ). xs ++ more) front.1)

-- where bytes are cut short and nothing comes behind them, too
cut_then : (n : ℕ) (xs ys zs : List ℕ) → Prefix ys zs → (n < length xs → ys ≡ []) → Prefix (take n xs ++ ys) (xs ++ zs)
cut_then n xs ys zs front none =
    elim (cases_lt n (length xs)) [
      | inl short ↦ (
        drop n xs ++ zs,
        ap (λ (more : List ℕ). (take n xs ++ more) ++ (drop n xs ++ zs)) (none short)
            ∙ ap (λ (bytes : List ℕ). bytes ++ (drop n xs ++ zs)) (append-nil (take n xs))
            ∙ sym (append_assoc (take n xs) (drop n xs) zs)
            ∙ ap (λ (bytes : List ℕ). bytes ++ zs) (take-append-drop n xs),
      )
      | inr whole ↦ subst (λ (bytes : List ℕ). Prefix (bytes ++ ys) (xs ++ zs)) (sym (take_all n xs whole)) (front_then xs ys zs front)
    ]

-- what is held of the sends that were made in time is a front of them
time_behind : (counts : List (ℕ × ℕ)) (before sends : List Send) (item conn : ℕ) → Prefix (sent_to conn (until item (held_behind counts before sends))) (sent_to conn (until item sends))
time_behind counts before [] item conn = ([], refl)
time_behind counts before (send ∷ sends) item conn =
    of (leb send.taken item) (eqb send.conn conn) refl (time_behind counts (before ++ send ∷ []) sends item conn)
  where
    of : (in_time here : Bool) → eqb send.conn conn ≡ here → Prefix (sent_to conn (until item (held_behind counts (before ++ send ∷ []) sends))) (sent_to conn (until item sends))
        → Prefix (sent_to conn (cond in_time (part_behind counts before send ∷ until item (held_behind counts (before ++ send ∷ []) sends)) (until item (held_behind counts (before ++ send ∷ []) sends))))
        (sent_to conn (cond in_time (send ∷ until item sends) (until item sends)))
    of true true is rest =
        subst (λ (here : Bool). Prefix (cond here (part_behind counts before send).bytes [] ++ sent_to conn (until item (held_behind counts (before ++ send ∷ []) sends))) (cond here send.bytes [] ++ sent_to conn (until item sends)))
        (sym is)
        (subst (λ (to : ℕ). Prefix (take (count_of counts to - length (sent_to to before)) send.bytes ++ sent_to conn (until item (held_behind counts (before ++ send ∷ []) sends))) (send.bytes ++ sent_to conn (until item sends)))
        (sym (eqb-true send.conn conn is))
        (cut_then (count_of counts conn - length (sent_to conn before)) send.bytes (sent_to conn (until item (held_behind counts (before ++ send ∷ []) sends))) (sent_to conn (until item sends)) rest
        (λ (short : count_of counts conn - length (sent_to conn before) < length send.bytes). none_behind counts (before ++ send ∷ []) sends item conn (omega (arith, short, more_sent conn before send true is)))))
    of true false is rest =
        subst (λ (here : Bool). Prefix (cond here (part_behind counts before send).bytes [] ++ sent_to conn (until item (held_behind counts (before ++ send ∷ []) sends))) (cond here send.bytes [] ++ sent_to conn (until item sends)))
        (sym is) rest
    of false here is rest = rest

pub held_is_in_time : HeldIsInTime
held_is_in_time counts state = (
  λ conn.
      subst (λ (bytes : List ℕ). Prefix bytes (sent_to conn state.sends)) (sym (held_is_front counts state.sends conn))
      (drop (count_of counts conn) (sent_to conn state.sends), take-append-drop (count_of counts conn) (sent_to conn state.sends)),
  λ item low conn. time_behind counts [] state.sends item conn,
)
