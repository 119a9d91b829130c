-- One event more behind events, and which connections they open and close.
use Rattle.std.proofs.Common.{◌==◌, ◌⊎◌}
use Rattle.links.specs.declared.journal.LinkEvent.TheVariants as event
use Rattle.rx_serve.proofs.Terms.{List, [], ap, arith, false, inl, inr, refl, subst, ℕ, ◌++◌, ◌<◌, ◌∙◌, ◌∷◌, ◌≡◌, ne_eqb, or_from, or_parts, LinkEvent, OpensOnce, closes}

abbrev head_or : {A : Type 0} → A → List A → A
head_or other [] = other
head_or other (x ∷ xs) = x

abbrev behind_head : {A : Type 0} → List A → List A
behind_head [] = []
behind_head (x ∷ xs) = xs

pub none_mid : {A : Type 0} (before after : List A) (x : A) → [] ≡ before ++ x ∷ after → ⊥
none_mid [] after x same = cc
none_mid (b ∷ before) after x same = cc

-- a place in a list that has one more at its end is there, or before
split_last : {A : Type 0} (xs before after : List A) (last x : A) → xs ++ last ∷ [] ≡ before ++ x ∷ after → ((xs ≡ before) × (last ≡ x)) ⊎ ((rest : List A) × (xs ≡ before ++ x ∷ rest))
split_last [] [] after last x same = inl (refl, ap (head_or last) same)
split_last [] (b ∷ before) after last x same = absurd (none_mid before after x (ap behind_head same))
split_last (a ∷ xs) [] after last x same = inr (xs, ap (λ y. y ∷ xs) (ap (head_or a) same))
split_last (a ∷ xs) (b ∷ before) after last x same =
    let first : a ≡ b = ap (head_or a) same in
    elim (split_last xs before after last x (ap behind_head same)) [
      | inl (is, at) ↦ inl (ap (λ y. y ∷ xs) first ∙ ap (λ ys. b ∷ ys) is, at)
      | inr (rest, is) ↦ inr (rest, ap (λ y. y ∷ xs) first ∙ ap (λ ys. b ∷ ys) is)
    ]

pub once_more : (events : List LinkEvent) (one : LinkEvent) → OpensOnce events → ((conn : ℕ) → one ≡ event.Opens conn → closes conn events ≡ false) → OpensOnce (events ++ one ∷ [])
once_more events one once fresh before after conn same = elim (split_last events before after one (event.Opens conn) same) [
  | inl (is, opens) ↦ subst (λ (list : List LinkEvent). closes conn list ≡ false) is (fresh conn opens)
  | inr (rest, is) ↦ once before rest conn is
]

pub closes_no_more : (conn : ℕ) (events : List LinkEvent) (one : LinkEvent) → closes conn (one ∷ []) ≡ false → closes conn events ≡ false → closes conn (events ++ one ∷ []) ≡ false
closes_no_more conn [] one none closed = none
closes_no_more conn (event.Opens c ∷ events) one none closed = closes_no_more conn events one none closed
closes_no_more conn (event.Piece c bytes ∷ events) one none closed = closes_no_more conn events one none closed
closes_no_more conn (event.Closes c ∷ events) one none closed =
    let parts = or_parts (c == conn) (closes conn events) closed in
    or_from (c == conn) (closes conn (events ++ one ∷ [])) parts.0 (closes_no_more conn events one none parts.1)
closes_no_more conn (event.Settles ∷ events) one none closed = closes_no_more conn events one none closed
closes_no_more conn (event.Ends ∷ events) one none closed = closes_no_more conn events one none closed

abbrev pub opened_conn : ℕ → LinkEvent → ℕ
opened_conn other (event.Opens conn) = conn
opened_conn other (event.Piece conn bytes) = other
opened_conn other (event.Closes conn) = other
opened_conn other event.Settles = other
opened_conn other event.Ends = other

pub closes_other : (conn other : ℕ) → conn < other → closes other (event.Closes conn ∷ []) ≡ false
closes_other conn other less = or_from (conn == other) false (ne_eqb conn other (λ same. omega arith)) refl
