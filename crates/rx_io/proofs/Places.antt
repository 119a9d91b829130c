-- Files in a list of names and bytes.
use Rattle.std.proofs.Math.ListN.{set}
use Rattle.std.proofs.lemmas.Slice.Eq.{bytes_eq-Decides}
use Rattle.std.proofs.lemmas.Bool.{false_from_ne_true}
use Rattle.std.proofs.Common.{Err, List, None, Ok, OnErr, OnOk, Result, Some, Vec, [], add-one, ap, arith, false, get_or, if◌then◌else◌, is_ok, length, refl, string_bytes, suc, sym, take, true, unwrap_or, zero, ℕ, ◌++◌, ◌+◌, ◌<◌, ◌∙◌, ◌∷◌, ◌≡◌, ◌≢◌}
use Rattle.rx_io.specs.Terms.{Global, bytes_eq}
use Rattle.rx_io.specs.Named.{Contents, Holds}
use Rattle.rx_io.specs.Shelves.{File, IsPlace, found}

same : (xs ys : List ℕ) → xs ≡ ys → bytes_eq xs ys ≡ true
same xs ys e = (bytes_eq-Decides xs ys).1 e

different : (xs ys : List ℕ) → xs ≢ ys → bytes_eq xs ys ≡ false
different xs ys differs = false_from_ne_true (bytes_eq xs ys) (λ equal. differs ((bytes_eq-Decides xs ys).0 equal))

-- a file of that name comes first, or another one
found_here : (file : File) (files : List File) (name : List ℕ) → string_bytes file.0 ≡ name → found (file ∷ files) name ≡ Some file.1.items
found_here file files name e = rw (same _ _ e) refl

found_later : (file : File) (files : List File) (name : List ℕ) → string_bytes file.0 ≢ name → found (file ∷ files) name ≡ found files name
found_later file files name differs = rw (different _ _ differs) refl

pub place_found : (files : List File) (name : List ℕ) (i : ℕ) (d : File) → IsPlace files name i → found files name ≡ Some (get_or files i d).1.items
place_found [] name i d p = absurd p
place_found (file ∷ files) name zero d p = found_here file files name p
place_found (file ∷ files) name (suc i) d p = found_later file files name p.0 ∙ place_found files name i d p.1

set_here : (files : List File) (name : List ℕ) (i : ℕ) (new : File) → IsPlace files name i → string_bytes new.0 ≡ name → found (set files i new) name ≡ Some new.1.items
set_here [] name i new p e = absurd p
set_here (file ∷ files) name zero new p e = found_here new files name e
set_here (file ∷ files) name (suc i) new p e = found_later file (set files i new) name p.0 ∙ set_here files name i new p.1 e

-- two files with one name, before files in which another name has the same bytes
found_behind : (file : File) (files others : List File) (name : List ℕ) → found files name ≡ found others name → found (file ∷ files) name ≡ found (file ∷ others) name
found_behind file files others name e = ap (λ o. if bytes_eq (string_bytes file.0) name then Some file.1.items else o) e

set_other : (files : List File) (name : List ℕ) (i : ℕ) (new : File) → IsPlace files name i → string_bytes new.0 ≡ name
    → (other : List ℕ) → other ≢ name → found (set files i new) other ≡ found files other
set_other [] name i new p e other differs = absurd p
set_other (file ∷ files) name zero new p e other differs =
    found_later new files other (λ q. differs (sym q ∙ e)) ∙ sym (found_later file files other (λ q. differs (sym q ∙ p)))
set_other (file ∷ files) name (suc i) new p e other differs = found_behind file _ _ other (set_other files name i new p.1 e other differs)

-- the file at a place was put anew
pub place_set : (files : List File) (name : List ℕ) (i : ℕ) (new : File) → IsPlace files name i → string_bytes new.0 ≡ name
    → Holds (found files) (found (set files i new)) name (Some new.1.items)
place_set files name i new p e = record { here = set_here files name i new p e; others = set_other files name i new p e }

push_here : (files : List File) (name : List ℕ) (new : File) → found files name ≡ None → string_bytes new.0 ≡ name → found (files ++ new ∷ []) name ≡ Some new.1.items
push_here [] name new none e = found_here new [] name e
push_here (file ∷ files) name new none e =
    elim (bytes_eq (string_bytes file.0) name) as (λ b. (if b then Some file.1.items else found files name) ≡ None → (if b then Some file.1.items else found (files ++ new ∷ []) name) ≡ Some new.1.items) [
      | true ↦ λ q. absurd (cc)
      | false ↦ λ q. push_here files name new q e
    ] none

push_other : (files : List File) (name : List ℕ) (new : File) → string_bytes new.0 ≡ name
    → (other : List ℕ) → other ≢ name → found (files ++ new ∷ []) other ≡ found files other
push_other [] name new e other differs = found_later new [] other (λ q. differs (sym q ∙ e))
push_other (file ∷ files) name new e other differs = found_behind file _ _ other (push_other files name new e other differs)

-- a new file was put behind the others
pub place_push : (files : List File) (name : List ℕ) (new : File) → found files name ≡ None → string_bytes new.0 ≡ name
    → Holds (found files) (found (files ++ new ∷ [])) name (Some new.1.items)
place_push files name new none e = record { here = push_here files name new none e; others = push_other files name new e }

-- a first file of a name, behind files without it
pub place_made : (files : List File) (name : List ℕ) (i : ℕ) (d : File) → found (take i files) name ≡ None → i < length files
    → string_bytes (get_or files i d).0 ≡ name → IsPlace files name i
place_made [] name i d none less e = absurd (omega arith)
place_made (file ∷ files) name zero d none less e = e
place_made (file ∷ files) name (suc i) d none less e =
    elim (bytes_eq (string_bytes file.0) name) as (λ b. bytes_eq (string_bytes file.0) name ≡ b → (if b then Some file.1.items else found (take i files) name) ≡ None
    → (string_bytes file.0 ≢ name) × IsPlace files name i) [
      | true ↦ λ t q. absurd (cc)
      | false ↦ λ t q. (λ s. absurd (cc (t, same _ _ s)), place_made files name i d q (omega arith) e)
    ] refl none

-- one more file has another name
pub none_more : (files : List File) (name : List ℕ) (i : ℕ) (d : File) → found (take i files) name ≡ None → i < length files
    → bytes_eq (string_bytes (get_or files i d).0) name ≡ false → found (take (i + 1) files) name ≡ None
none_more [] name i d none less e = absurd (omega arith)
none_more (file ∷ files) name zero d none less e = rw e refl
none_more (file ∷ files) name (suc i) d none less e = rw add-one
    (elim (bytes_eq (string_bytes file.0) name) as (λ b. (if b then Some file.1.items else found (take i files) name) ≡ None
    → (if b then Some file.1.items else found (take (suc i) files) name) ≡ None) [
      | true ↦ λ q. q
      | false ↦ λ q. rw (← add-one) (none_more files name i d q (omega arith) e)
    ] none)

place_name : (files : List File) (name : List ℕ) (i : ℕ) (d : File) → IsPlace files name i → string_bytes (get_or files i d).0 ≡ name
place_name [] name i d p = absurd p
place_name (file ∷ files) name zero d p = p
place_name (file ∷ files) name (suc i) d p = place_name files name i d p.1

-- the file at a place got these bytes
pub place_put : (files : List File) (name : List ℕ) (i : ℕ) (x : File) (new : Vec ℕ Global) (bytes : List ℕ) → IsPlace files name i → x ≡ get_or files i x
    → new.items ≡ bytes → Holds (found files) (found (set files i (x.0, new))) name (Some bytes)
place_put files name i x new bytes p is got =
    rw (← got) (place_set files name i (x.0, new) p (ap (λ f. string_bytes f.0) is ∙ place_name files name i x p))

-- what stood there
pub place_holds : (files : List File) (name : List ℕ) (i : ℕ) (x : File) → IsPlace files name i → x ≡ get_or files i x → found files name ≡ Some x.1.items
place_holds files name i x p is = place_found files name i x p ∙ ap (λ f. Some f.1.items) (sym is)

-- the file at a place got more bytes
pub place_added : (files : List File) (name : List ℕ) (i : ℕ) (x : File) (new : Vec ℕ Global) (bytes : List ℕ) → IsPlace files name i → x ≡ get_or files i x
    → new.items ≡ x.1.items ++ bytes → Holds (found files) (found (set files i (x.0, new))) name (Some (unwrap_or (found files name) [] ++ bytes))
place_added files name i x new bytes p is got = rw (place_holds files name i x p is) (place_put files name i x new _ p is got)

-- the file at a place kept its bytes
pub place_kept : (files : List File) (name : List ℕ) (i : ℕ) (x : File) (new : Vec ℕ Global) → IsPlace files name i → x ≡ get_or files i x
    → new.items ≡ x.1.items → Holds (found files) (found (set files i (x.0, new))) name (found files name)
place_kept files name i x new p is got = rw (place_holds files name i x p is) (place_put files name i x new _ p is got)

-- the file at a place was to get more bytes, and got them or kept its own
pub place_extended : {E : Type 0} (r : Result (Unit {0}) E) (files : List File) (name : List ℕ) (i : ℕ) (x : File) (new : Vec ℕ Global) (bytes : List ℕ)
    → IsPlace files name i → x ≡ get_or files i x → new.items ≡ (if is_ok r then x.1.items ++ bytes else x.1.items)
    → OnOk r (Holds (found files) (found (set files i (x.0, new))) name (Some (unwrap_or (found files name) [] ++ bytes)))
    × OnErr r (Holds (found files) (found (set files i (x.0, new))) name (found files name))
place_extended (Ok done) files name i x new bytes p is got = (place_added files name i x new bytes p is got, tt)
place_extended (Err e) files name i x new bytes p is got = (tt, place_kept files name i x new p is got)

-- where one name has what it had, and so has each other, each has
pub holds_each : (old new : Contents) (name : List ℕ) → Holds old new name (old name) → (other : List ℕ) → new other ≡ old other
holds_each old new name held other =
    elim (bytes_eq other name) as (λ b. bytes_eq other name ≡ b → new other ≡ old other) [
      | true ↦ λ t. let e : other ≡ name = (bytes_eq-Decides other name).0 t in rw e held.here
      | false ↦ λ t. held.others other (λ e. absurd (cc (t, same _ _ e)))
    ] refl
