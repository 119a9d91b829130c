-- The files of notes beside another file: under that name they have what they had, and what holds of the two files holds still.
use Rattle.std.proofs.Common.{false}
use Rattle.file_notes.proofs.Terms.{Bool, Err, List, None, Ok, Option, Result, Some, [], ap, cond, inl, inr, refl, subst, sym, true, true≢false, ℕ, ◌++◌, ◌∙◌, ◌≡◌, bytes_eq-Decides, bytes_eq, if◌then◌else◌, unwrap_or, ◌≢◌, ◌⊎◌, IoFault, Contents, Choice, Episode, Form, Names, Left, HasNotes, Stands, in_record, in_report, HasBoth, HasPart, HasPartly, HasWhole, Kept, Writes, WritesBoth, nothing_kept}
use Rattle.file_notes.specs.Beside.{IsThird}

-- a name is this one, or another
same_or_other : (a b : List ℕ) → (a ≡ b) ⊎ (a ≢ b)
same_or_other a b = elim (bytes_eq a b) as (λ t. bytes_eq a b ≡ t → (a ≡ b) ⊎ (a ≢ b)) [
  | true ↦ λ e. inl ((bytes_eq-Decides a b).0 e)
  | false ↦ λ e. inr (λ same. true≢false (sym ((bytes_eq-Decides a b).1 same) ∙ e))
] refl

pub not_same : (a b : List ℕ) → a ≢ b → bytes_eq a b ≡ false
not_same a b other = elim (bytes_eq a b) as (λ t. bytes_eq a b ≡ t → bytes_eq a b ≡ false) [
  | true ↦ λ e. absurd (other ((bytes_eq-Decides a b).0 e))
  | false ↦ λ e. e
] refl

-- what these files have, but under one name what others have
abbrev pub beside_of : List ℕ → Contents → Contents → Contents
beside_of name before now = λ other. if bytes_eq other name then before name else now other

pub beside_here : (name : List ℕ) (before now : Contents) → beside_of name before now name ≡ before name
beside_here name before now = ap (λ (b : Bool). cond b (before name) (now name)) ((bytes_eq-Decides name name).1 refl)

pub beside_other : (name : List ℕ) (before now : Contents) (other : List ℕ) → other ≢ name → beside_of name before now other ≡ now other
beside_other name before now other differs = ap (λ (b : Bool). cond b (before name) (now other)) (not_same other name differs)

-- where both tell it
abbrev pub beside_told : List ℕ → Option Contents → Option Contents → Option Contents
beside_told name None now = now
beside_told name (Some before) None = None
beside_told name (Some before) (Some now) = Some (beside_of name before now)

module _ (names : Names) (name : List ℕ) (third : IsThird names name) where
  -- two moments of the files, and the same with another text under the name, the same at both
  record AreMoved (before now before_moved now_moved : Contents) : Type 0 where
    first : (other : List ℕ) → other ≢ name → before_moved other ≡ before other
    last : (other : List ℕ) → other ≢ name → now_moved other ≡ now other
    same : now_moved name ≡ before_moved name

  moved_others : {before now before_moved now_moved : Contents} → AreMoved before now before_moved now_moved → ((other : List ℕ) → other ≢ names.record_name → other ≢ names.report_name → now other ≡ before other)
      → (other : List ℕ) → other ≢ names.record_name → other ≢ names.report_name → now_moved other ≡ before_moved other
  moved_others {before_moved = before_moved} {now_moved = now_moved} moved others other one two =
      elim (same_or_other other name) [
        | inl is ↦ subst (λ (n : List ℕ). now_moved n ≡ before_moved n) (sym is) moved.same
        | inr is ↦ moved.last other is ∙ others other one two ∙ sym (moved.first other is)
      ]

  moved_notes : (form : Form) {before now before_moved now_moved : Contents} (choices : List Choice) (episodes : List Episode) (left : Left) → AreMoved before now before_moved now_moved
      → HasNotes names form before now choices episodes left → HasNotes names form before_moved now_moved choices episodes left
  moved_notes form choices episodes left moved has = record {
    record_has =
        ap (λ (o : Option (List ℕ)). unwrap_or o []) (moved.last names.record_name third.no_record) ∙ has.record_has
        ∙ ap (λ (o : Option (List ℕ)). unwrap_or o [] ++ in_record choices left) (sym (moved.first names.record_name third.no_record));
    report_has =
        ap (λ (o : Option (List ℕ)). unwrap_or o []) (moved.last names.report_name third.no_report) ∙ has.report_has
        ∙ ap (λ (o : Option (List ℕ)). unwrap_or o [] ++ in_report form episodes left) (sym (moved.first names.report_name third.no_report));
    others = moved_others moved has.others;
  }

  moved_whole : (kept : Kept) (text : List ℕ) {before now before_moved now_moved : Contents} (file : List ℕ) → file ≢ name → AreMoved before now before_moved now_moved
      → HasWhole kept text (before file) (now file) → HasWhole kept text (before_moved file) (now_moved file)
  moved_whole kept text file other moved has = moved.last file other ∙ has ∙ ap (λ (o : Option (List ℕ)). Some (kept o ++ text)) (sym (moved.first file other))

  moved_part : (kept : Kept) (text : List ℕ) {before now before_moved now_moved : Contents} (file : List ℕ) → file ≢ name → AreMoved before now before_moved now_moved
      → HasPart kept text (before file) (now file) → HasPart kept text (before_moved file) (now_moved file)
  moved_part kept text {before = before} {now_moved = now_moved} file other moved has =
      subst (λ (o : Option (List ℕ)). HasPart kept text o (now_moved file)) (sym (moved.first file other))
      (subst (λ (o : Option (List ℕ)). HasPart kept text (before file) o) (sym (moved.last file other)) has)

  moved_both : (kept : Kept) (of_record of_report : List ℕ) {before now before_moved now_moved : Contents} → AreMoved before now before_moved now_moved
      → HasBoth kept names of_record of_report before now → HasBoth kept names of_record of_report before_moved now_moved
  moved_both kept of_record of_report moved has = record {
    record_has = moved_whole kept of_record names.record_name third.no_record moved has.record_has;
    report_has = moved_whole kept of_report names.report_name third.no_report moved has.report_has;
    others = moved_others moved has.others;
  }

  moved_partly : (kept : Kept) (of_record of_report : List ℕ) {before now before_moved now_moved : Contents} → AreMoved before now before_moved now_moved
      → HasPartly kept names of_record of_report before now → HasPartly kept names of_record of_report before_moved now_moved
  moved_partly kept of_record of_report moved has = record {
    record_part = moved_part kept of_record names.record_name third.no_record moved has.record_part;
    report_part = elim has.report_part [
      | inl same ↦ inl (moved.last names.report_name third.no_report ∙ same ∙ sym (moved.first names.report_name third.no_report))
      | inr both ↦ inr (moved_whole kept of_record names.record_name third.no_record moved both.0, moved_part kept of_report names.report_name third.no_report moved both.1)
    ];
    others = moved_others moved has.others;
  }

  both_beside : (before old new : Contents) → AreMoved old new (beside_of name before old) (beside_of name before new)
  both_beside before old new = record {
    first = beside_other name before old;
    last = beside_other name before new;
    same = beside_here name before new ∙ sym (beside_here name before old);
  }

  -- texts that are written into the two files
  pub writes_beside : (kept : Kept) (of_record of_report : List ℕ) (before old new : Option Contents) (result : Result (Unit {0}) IoFault) → WritesBoth kept names of_record of_report old new result
      → WritesBoth kept names of_record of_report (beside_told name before old) (beside_told name before new) result
  writes_beside kept of_record of_report None old new result writes = writes
  writes_beside kept of_record of_report (Some before) None new result writes = tt
  writes_beside kept of_record of_report (Some before) (Some old) None result writes = absurd writes
  writes_beside kept of_record of_report (Some before) (Some old) (Some new) (Ok done) writes = moved_both kept of_record of_report (both_beside before old new) writes
  writes_beside kept of_record of_report (Some before) (Some old) (Some new) (Err fault) writes = moved_partly kept of_record of_report (both_beside before old new) writes

  -- what notes put into them, behind the first line of the diagnosis
  pub stands_beside : (form : Form) (text : List ℕ) (choices : List Choice) (episodes : List Episode) (left : Left) (started headed served : Option Contents) → Writes nothing_kept started headed name text (Ok tt)
      → Stands names form headed served choices episodes left → Stands names form started (beside_told name started served) choices episodes left
  stands_beside form text choices episodes left None headed served writes stands = tt
  stands_beside form text choices episodes left (Some started) None served writes stands = absurd writes
  stands_beside form text choices episodes left (Some started) (Some headed) None writes stands = absurd stands
  stands_beside form text choices episodes left (Some started) (Some headed) (Some served) writes stands =
      moved_notes form choices episodes left
      (record {
        first = λ other differs. sym (writes.others other differs);
        last = beside_other name started served;
        same = beside_here name started served;
      })
      stands
