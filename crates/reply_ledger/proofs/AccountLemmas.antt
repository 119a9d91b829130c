-- What is kept of connections: one of them read or changed, or all of them.
use Rattle.indexmap.specs.IndexMap.{set_value_at}
use Rattle.indexmap.proofs.CallerLemmas.{insert_entry-new}
use Rattle.std.specs.Cmp.{nat_eq_equiv}
use Rattle.std.proofs.lemmas.Map.Made.{is_some-lookup, lookup-map_values}
use Rattle.std.proofs.lemmas.Map.Views.{IfSome-lookup_from_All, All-values_from_lookup}
use Rattle.std.proofs.lemmas.Map.{keys-set_value, lookup-insert, lookup-set_value, none_passes_from_lookup}
use Rattle.std.proofs.lemmas.Map.Steps.{set_value_same}
use Rattle.reply_ledger.proofs.Terms.{Bool, List, None, Option, Some, [], add-one, ap, arith, cond, drop, false, if◌then◌else◌, is_some, length, length-append, refl, subst, suc, sym, take, true, zero, ℕ, ◌++◌, ◌+◌, ◌<◌, ◌∙◌, ◌∷◌, ◌≡◌, eq-eqb, eqb-true, true≢false, drop_all, length-map, map-append, take-append-drop, take_all, AllPass-from_list_all, list_all-from_AllPass, IsDistinct, list_all, keys_of, lookup, set_value, values_of, IfSome, option_map, All, nat_eq, slice_get, unwrap_or, ◌==◌, Kept, account_at, no_account, restarted, is_known}
use Rattle.reply_ledger.proofs.PositionLemmas.{tested, not-empty}

pub account_at-some : (T : List (ℕ × Kept)) (conn : ℕ) (v : Kept) → Some v ≡ lookup (nat_eq conn) T → account_at T conn ≡ v
unfolding account_at
account_at-some T conn v h = ap (λ (o : Option Kept). unwrap_or o no_account) (sym h)

pub account_at-none : (T : List (ℕ × Kept)) (conn : ℕ) → None ≡ lookup (nat_eq conn) T → account_at T conn ≡ no_account
unfolding account_at
account_at-none T conn h = ap (λ (o : Option Kept). unwrap_or o no_account) (sym h)

pub set_value-none : (conn : ℕ) (T : List (ℕ × Kept)) (w : Kept) → None ≡ lookup (nat_eq conn) T → set_value (nat_eq conn) T w ≡ T
set_value-none conn [] w h = refl
set_value-none conn (e ∷ T) w h = by (nat_eq conn e.0) h (λ k. set_value-none conn T w k)
  where
    by : (b : Bool) → None ≡ cond b (Some e.1) (lookup (nat_eq conn) T) → (None ≡ lookup (nat_eq conn) T → set_value (nat_eq conn) T w ≡ T) → cond b ((e.0, w) ∷ T) (e ∷ set_value (nat_eq conn) T w) ≡ e ∷ T
    by true k rest = absurd (let no : ⊥ = cc in no)
    by false k rest = ap (λ (l : List (ℕ × Kept)). e ∷ l) (rest k)

-- accounts by number, one of them changed
abbrev pub put : (ℕ → Kept) → ℕ → Kept → ℕ → Kept
put A conn k q = if conn == q then k else A q

-- what holds of the changed account, and of the others where they stand
pub at-put : (P : ℕ → Kept → Type 0) (A : ℕ → Kept) (conn : ℕ) (k : Kept) → P conn k → ((q : ℕ) → conn == q ≡ false → P q (A q)) → (q : ℕ) → P q (put A conn k q)
at-put P A conn k here others q = tested (conn == q)
    (λ t. subst (λ (b : Bool). P q (if b then k else A q)) (sym t) (subst (λ (c : ℕ). P c k) (eqb-true conn q t) here))
    (λ f. subst (λ (b : Bool). P q (if b then k else A q)) (sym f) (others q f))

pub put-same : {X : Type 0} (f : Kept → X) (A : ℕ → Kept) (conn : ℕ) (k : Kept) → f k ≡ f (A conn) → (q : ℕ) → f (put A conn k q) ≡ f (A q)
put-same f A conn k e = at-put (λ q x. f x ≡ f (A q)) A conn k e (λ q none. refl)

pub put-here : (A : ℕ → Kept) (conn : ℕ) (k : Kept) → put A conn k conn ≡ k
put-here A conn k = ap (λ (b : Bool). if b then k else A conn) (eq-eqb conn conn refl)

-- nothing is kept of a connection that isn't known
pub lookup-unknown : (T : List (ℕ × Kept)) (q : ℕ) → is_known (keys_of T) q ≡ false → lookup (nat_eq q) T ≡ None
lookup-unknown T q h = by (lookup (nat_eq q) T) (is_some-lookup (nat_eq q) T ∙ h)
  where
    by : (o : Option Kept) → is_some o ≡ false → o ≡ None
    by None k = refl
    by (Some v) k = absurd (true≢false k)

pub none_kept : (T : List (ℕ × Kept)) (q : ℕ) → is_known (keys_of T) q ≡ false → account_at T q ≡ no_account
none_kept T q h = account_at-none T q (sym (lookup-unknown T q h))

found_or : (b : Bool) (k : Kept) (o : Option Kept) → unwrap_or (cond b (Some k) o) no_account ≡ cond b k (unwrap_or o no_account)
found_or true k o = refl
found_or false k o = refl

account_at-set : (T : List (ℕ × Kept)) (conn : ℕ) (k : Kept) → is_known (keys_of T) conn ≡ true → (q : ℕ) → account_at (set_value (nat_eq conn) T k) q ≡ put (account_at T) conn k q
unfolding account_at
account_at-set T conn k known q = ap (λ (o : Option Kept). unwrap_or o no_account) (lookup-set_value nat_eq_equiv (nat_eq conn) one q k T (is_some-lookup (nat_eq conn) T ∙ known)) ∙ found_or (nat_eq conn q) k (lookup (nat_eq q) T)
  where
    one : (x y : ℕ) → nat_eq conn x ≡ true → nat_eq conn y ≡ nat_eq x y
    one x y h = ap (λ (n : ℕ). nat_eq n y) (eqb-true conn x h)

-- what holds of the accounts by number holds of those that were written
pub of_written : (P : (ℕ → Kept) → List ℕ → Type 0) (T : List (ℕ × Kept)) (conn : ℕ) (k : Kept) {new : List (ℕ × Kept)} → new ≡ set_value (nat_eq conn) T k → is_known (keys_of T) conn ≡ true → P (put (account_at T) conn k) (keys_of T) → P (account_at new) (keys_of new)
of_written P T conn k is known h =
    let at : put (account_at T) conn k ≡ account_at (set_value (nat_eq conn) T k) = λ i q. sym (account_at-set T conn k known q) i in
    let keys : keys_of T ≡ keys_of (set_value (nat_eq conn) T k) = sym (keys-set_value (nat_eq conn) T k) in
    subst (λ (l : List (ℕ × Kept)). P (account_at l) (keys_of l)) (sym is) (subst (λ (l : List ℕ). P (account_at (set_value (nat_eq conn) T k)) l) keys (subst (λ (B : ℕ → Kept). P B (keys_of T)) at h))

-- a connection opens
account_at-push : (T : List (ℕ × Kept)) (conn : ℕ) (k : Kept) → is_known (keys_of T) conn ≡ false → (q : ℕ) → account_at (T ++ (conn, k) ∷ []) q ≡ put (account_at T) conn k q
unfolding account_at
account_at-push T conn k none q =
    (λ i. unwrap_or (lookup (nat_eq q) (sym (take_all (length T) T (omega arith)) i ++ (conn, k) ∷ sym (drop_all (length T) T (omega arith)) i)) no_account)
    ∙ ap (λ (o : Option Kept). unwrap_or o no_account) (lookup-insert nat_eq_equiv conn k q T (length T) (none_passes_from_lookup (nat_eq conn) T (lookup-unknown T conn none))) ∙ found_or (nat_eq conn q) k (lookup (nat_eq q) T)

pub keys-push : (T : List (ℕ × Kept)) (conn : ℕ) (k : Kept) → keys_of (T ++ (conn, k) ∷ []) ≡ keys_of T ++ conn ∷ []
keys-push T conn k = map-append (λ (e : ℕ × Kept). e.0) T ((conn, k) ∷ [])

pub of_opened : (P : (ℕ → Kept) → List ℕ → Type 0) (T : List (ℕ × Kept)) (conn : ℕ) (k : Kept) {new : List (ℕ × Kept)} → new ≡ T ++ (conn, k) ∷ [] → is_known (keys_of T) conn ≡ false → P (put (account_at T) conn k) (keys_of T ++ conn ∷ []) → P (account_at new) (keys_of new)
of_opened P T conn k is none h =
    let at : put (account_at T) conn k ≡ account_at (T ++ (conn, k) ∷ []) = λ i q. sym (account_at-push T conn k none q) i in
    subst (λ (l : List (ℕ × Kept)). P (account_at l) (keys_of l)) (sym is) (subst (λ (l : List ℕ). P (account_at (T ++ (conn, k) ∷ [])) l) (sym (keys-push T conn k)) (subst (λ (B : ℕ → Kept). P B (keys_of T ++ conn ∷ [])) at h))

-- all accounts start anew
pub account_at-restarted : (T : List (ℕ × Kept)) (q : ℕ) → account_at (restarted T) q ≡ record (account_at T q) { end = (account_at T q).earlier }
unfolding account_at restarted
account_at-restarted T q = ap (λ (o : Option Kept). unwrap_or o no_account) (lookup-map_values (λ (k : Kept). record k { end = k.earlier }) (nat_eq q) T) ∙ by (lookup (nat_eq q) T)
  where
    by : (o : Option Kept) → unwrap_or (option_map (λ (k : Kept). record k { end = k.earlier }) o) no_account ≡ record (unwrap_or o no_account) { end = (unwrap_or o no_account).earlier }
    by None = refl
    by (Some k) = refl

pub keys-restarted : (T : List (ℕ × Kept)) → keys_of (restarted T) ≡ keys_of T
unfolding restarted
keys-restarted [] = refl
keys-restarted (e ∷ T) = ap (λ (l : List ℕ). e.0 ∷ l) (keys-restarted T)

pub restarted-none : (T : List (ℕ × Kept)) → T ≡ restarted [] ++ T
unfolding restarted
restarted-none T = refl

more_at : (T : List (ℕ × Kept)) (i : ℕ) (v : Kept) → i < length T → slice_get (values_of (restarted (take i T) ++ drop i T)) i ≡ Some v
    → set_value_at (restarted (take i T) ++ drop i T) i (record v { end = v.earlier }) ≡ restarted (take (suc i) T) ++ drop (suc i) T
unfolding restarted
more_at [] i v lt g = absurd (omega arith)
more_at (e ∷ T) zero v lt g = let same : e.1 ≡ v = (cc) in ap (λ (t : Kept). (e.0, record t { end = t.earlier }) ∷ T) (sym same)
more_at (e ∷ T) (suc i) v lt g = ap (λ (l : List (ℕ × Kept)). (e.0, record e.1 { end = e.1.earlier }) ∷ l) (more_at T i v (omega arith) g)

pub restarted-more : (T now new : List (ℕ × Kept)) (i : ℕ) (v w : Kept) → now ≡ restarted (take i T) ++ drop i T → i < length T → slice_get (values_of now) i ≡ Some v → new ≡ set_value_at now i w → w ≡ record v { end = v.earlier }
    → new ≡ restarted (take (i + 1) T) ++ drop (i + 1) T
restarted-more T now new i v w at lt g n e =
    n ∙ ap (set_value_at now i) e ∙ ap (λ (l : List (ℕ × Kept)). set_value_at l i (record v { end = v.earlier })) at
    ∙ more_at T i v lt (ap (λ (l : List (ℕ × Kept)). slice_get (values_of l) i) (sym at) ∙ g) ∙ ap (λ (n : ℕ). restarted (take n T) ++ drop n T) (sym (add-one i))

pub length-restarted : (T now : List (ℕ × Kept)) (i : ℕ) → now ≡ restarted (take i T) ++ drop i T → length now ≡ length T
unfolding restarted
length-restarted T now i at =
    ap length at ∙ length-append (restarted (take i T)) (drop i T) ∙ ap (λ (n : ℕ). n + length (drop i T)) (length-map (take i T) _) ∙ sym (length-append (take i T) (drop i T)) ∙ ap length (take-append-drop i T)

-- a test of all accounts
pub all_pass : (p : Kept → Bool) (T : List (ℕ × Kept)) → p no_account ≡ true → list_all p (values_of T) ≡ true → (q : ℕ) → p (account_at T q) ≡ true
unfolding account_at
all_pass p T none h q = by (lookup (nat_eq q) T) (IfSome-lookup_from_All (λ (v : Kept). p v ≡ true) (nat_eq q) T (AllPass-from_list_all p (values_of T) h))
  where
    by : (o : Option Kept) → IfSome o (λ (v : Kept). p v ≡ true) → p (unwrap_or o no_account) ≡ true
    by None k = none
    by (Some v) k = k

-- what holds of each account holds of those in the map
pub all-kept : (P : Kept → Type 0) (T : List (ℕ × Kept)) → IsDistinct nat_eq (keys_of T) → ((q : ℕ) → P (account_at T q)) → All P (values_of T)
all-kept P T distinct h = All-values_from_lookup nat_eq_equiv P T distinct (λ q. by q (lookup (nat_eq q) T) refl)
  where
    by : (q : ℕ) (o : Option Kept) → lookup (nat_eq q) T ≡ o → IfSome o P
    by q None k = tt
    by q (Some v) k = subst P (account_at-some T q v (sym k)) (h q)

pub pass_all : (p : Kept → Bool) (T : List (ℕ × Kept)) → IsDistinct nat_eq (keys_of T) → ((q : ℕ) → p (account_at T q) ≡ true) → list_all p (values_of T) ≡ true
pass_all p T distinct h = list_all-from_AllPass p (values_of T) (all-kept (λ (v : Kept). p v ≡ true) T distinct h)

pub ruleset accounts = (account_at-some, account_at-none, not-empty)

pub ruleset opening = (insert_entry-new)

pub ruleset writing = (account_at-some, set_value-none, set_value_same)

pub ruleset restarting = (restarted-none, length-restarted)
