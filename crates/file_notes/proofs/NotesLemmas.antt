-- What notes are after an episode was noted, what stands in their files, and what of them stays.
use Rattle.std.proofs.lemmas.Bool.{false≢true}
use Rattle.std.proofs.Common.{unwrap_or}
use Rattle.file_notes.proofs.Terms.{Bool, Err, List, None, Ok, Option, Result, Some, [], ap, append-nil, append_assoc, arith, cond, eqb-true, inl, inr, length, length-append, refl, subst, sym, true, true≢false, zero-add, ℕ, ◌++◌, ◌+◌, ◌==◌, ◌∙◌, ◌∷◌, ◌≡◌, bytes_eq-Decides, bytes_eq, false, ◌≢◌, IoFault, FileCall, Adds, AddsFront, Contents, Choice, Episode, Form, episode_text, episode_texts, AreTwo, Names, bytes_in, InRecord, InReport, Left, Nothing, is_whole, left_in_report, Stands, StandsBehind, in_record, in_report_behind, Had, Past, before_of, had_in, with_episode, HasKept, IsNotes, Keeps}
use Rattle.file_notes.proofs.BesideLemmas.{not_same}
use Rattle.file_notes.proofs.TextLemmas.{one_more}

-- the text of one more episode stands behind the others, where nothing was left
pub report_more : (form : Form) (first : ℕ) (episodes : List Episode) (e : Episode) (left : Left) (had now : List ℕ) → is_whole left ≡ true
    → now ≡ had ++ in_report_behind form first episodes left → now ++ episode_text (first + length episodes) e form ≡ had ++ in_report_behind form first (episodes ++ e ∷ []) left
report_more form first episodes e Nothing had now whole is =
    let text : List ℕ = episode_text (first + length episodes) e form in
    ap (λ l. l ++ text) is ∙ append_assoc had (episode_texts form first episodes ++ []) text
    ∙ ap (λ l. had ++ l) (ap (λ l. l ++ text) (append-nil (episode_texts form first episodes)) ∙ sym (one_more form first episodes e) ∙ sym (append-nil (episode_texts form first (episodes ++ e ∷ []))))
report_more form first episodes e (InRecord choices count) had now whole is = absurd (false≢true whole)
report_more form first episodes e (InReport other count) had now whole is = absurd (false≢true whole)

module _ (names : Names) (form : Form) (first : ℕ) (had : Had) (choices : List Choice) (episodes : List Episode) (left : Left) (e : Episode) where
  -- the text of an episode was added to the report
  pub kept_more : AreTwo names → is_whole left ≡ true → (old new : Contents)
      → AddsFront old new names.report_name (episode_text (first + length episodes) e form)
      → HasKept names form first had old choices episodes left → HasKept names form first had new choices (episodes ++ e ∷ []) left
  kept_more two whole old new added kept = record {
    record_has = ap (λ file. unwrap_or file []) (added.others names.record_name two) ∙ kept.record_has;
    report_has = ap (λ file. unwrap_or file []) added.here ∙ report_more form first episodes e left (unwrap_or had.report_bytes []) (bytes_in old names.report_name) whole kept.report_has;
  }

-- an episode was noted
pub keeps_more : (names : Names) (form : Form) (first : ℕ) (had : Option Had) (old new : Option Contents) (choices : List Choice) (episodes : List Episode) (left : Left) (e : Episode)
    → AreTwo names → is_whole left ≡ true → Adds old new names.report_name (episode_text (first + length episodes) e form) (Ok tt)
    → Keeps names form first had old choices episodes left → Keeps names form first had new choices (episodes ++ e ∷ []) left
keeps_more names form first None old new choices episodes left e two whole added keeps = tt
keeps_more names form first (Some had) None new choices episodes left e two whole added keeps = absurd keeps
keeps_more names form first (Some had) (Some old) None choices episodes left e two whole added keeps = absurd added
keeps_more names form first (Some had) (Some old) (Some new) choices episodes left e two whole added keeps = kept_more names form first had choices episodes left e two whole old new added keeps

pub noted_episode : (names : Names) (form : Form) (old new : Option Contents) (past after : Past) (number : ℕ) (broken : Bool) (e : Episode)
    → is_whole past.left ≡ true → after ≡ with_episode past e → Adds old new names.report_name (episode_text number e form) (Ok tt)
    → IsNotes names form old past number broken → IsNotes names form new after (number + 1) broken
noted_episode names form old new past after number broken e whole after_is added notes =
    let text : Adds old new names.report_name (episode_text (past.first + length past.episodes) e form) (Ok tt) =
    subst (λ (n : ℕ). Adds old new names.report_name (episode_text n e form) (Ok tt)) notes.number_is added in
    let count : length (past.episodes ++ e ∷ []) ≡ length past.episodes + 1 = length-append past.episodes (e ∷ []) in
    let is : number ≡ past.first + length past.episodes = notes.number_is in
    subst (λ (p : Past). IsNotes names form new p (number + 1) broken) (sym after_is) (record {
      are_two = notes.are_two;
      number_is = omega (arith, count, is);
      broken_is = notes.broken_is;
      keeps = keeps_more names form past.first past.had old new past.choices past.episodes past.left e notes.are_two whole text notes.keeps;
      asks = notes.asks;
    })

-- ---- what stands in the files

same_name : (name : List ℕ) → bytes_eq name name ≡ true
same_name name = (bytes_eq-Decides name name).1 refl

module _ (names : Names) (had : Had) (now : Contents) where
  had_record : had_in names had now names.record_name ≡ had.record_bytes
  had_record = rw (same_name names.record_name) refl

  had_report : AreTwo names → had_in names had now names.report_name ≡ had.report_bytes
  had_report two = rw (not_same names.report_name names.record_name (λ same. two (sym same)), same_name names.report_name) refl

  had_other : (other : List ℕ) → other ≢ names.record_name → other ≢ names.report_name → now other ≡ had_in names had now other
  had_other other no_record no_report = rw (not_same other names.record_name no_record, not_same other names.report_name no_report) refl

module _ (names : Names) (form : Form) (first : ℕ) (choices : List Choice) (episodes : List Episode) (left : Left) where
  -- what the invariant says of the files, as what callers are told
  pub stands_behind : (had : Option Had) (told : Option Contents) → AreTwo names → Keeps names form first had told choices episodes left
      → StandsBehind names form first (before_of names had told) told choices episodes left
  stands_behind None told two keeps = tt
  stands_behind (Some had) None two keeps = absurd keeps
  stands_behind (Some had) (Some now) two kept = record {
    record_has = kept.record_has ∙ ap (λ (file : Option (List ℕ)). unwrap_or file [] ++ in_record choices left) (sym (had_record names had now));
    report_has = kept.report_has ∙ ap (λ (file : Option (List ℕ)). unwrap_or file [] ++ in_report_behind form first episodes left) (sym (had_report names had now two));
    others = had_other names had now;
  }

-- where the first episode of all is the first one that was noted
module _ (names : Names) (form : Form) (choices : List Choice) (episodes : List Episode) (left : Left) where
  stands_first : (before now : Option Contents) → StandsBehind names form 0 before now choices episodes left → Stands names form before now choices episodes left
  stands_first None now stands = tt
  stands_first (Some before) None stands = stands
  stands_first (Some before) (Some now) stands = record {
    record_has = stands.record_has;
    report_has = stands.report_has ∙ ap (λ (n : ℕ). bytes_in before names.report_name ++ (episode_texts form 0 episodes ++ left_in_report form n left)) (zero-add (length episodes));
    others = stands.others;
  }

  pub stands_alone : (first : ℕ) (before now : Option Contents) → StandsBehind names form first before now choices episodes left
      → Stands names form (cond (first == 0) before None) now choices episodes left
  stands_alone first before now stands =
      elim (first == 0) as (λ (b : Bool). (first == 0) ≡ b → Stands names form (cond b before None) now choices episodes left) [
        | true ↦ λ e. stands_first before now (subst (λ (n : ℕ). StandsBehind names form n before now choices episodes left) (eqb-true first 0 e) stands)
        | false ↦ λ e. tt
      ] refl

-- ---- what stays

differs : (a b : List ℕ) → bytes_eq a b ≡ false → a ≢ b
differs a b e same = true≢false (sym ((bytes_eq-Decides a b).1 same) ∙ e)

had_same : (names : Names) (had : Had) (old new : Contents) → ((other : List ℕ) → other ≢ names.record_name → other ≢ names.report_name → new other ≡ old other) → had_in names had new ≡ had_in names had old
had_same names had old new others = λ i name. by name i
  where
    by : (name : List ℕ) → had_in names had new name ≡ had_in names had old name
    by name =
        elim (bytes_eq name names.record_name) as (λ (b : Bool). bytes_eq name names.record_name ≡ b
        → cond b had.record_bytes (cond (bytes_eq name names.report_name) had.report_bytes (new name)) ≡ cond b had.record_bytes (cond (bytes_eq name names.report_name) had.report_bytes (old name))) [
          | true ↦ λ e. refl
          | false ↦ λ no_record. elim (bytes_eq name names.report_name) as (λ (b : Bool). bytes_eq name names.report_name ≡ b
              → cond b had.report_bytes (new name) ≡ cond b had.report_bytes (old name)) [
                | true ↦ λ e. refl
                | false ↦ λ no_report. others name (differs name names.record_name no_record) (differs name names.report_name no_report)
              ] refl
        ] refl

-- bytes that were added to one of the two, or not all of them
module _ (names : Names) (form : Form) (first : ℕ) (choices : List Choice) (episodes : List Episode) (left : Left) (name text : List ℕ)
    (one : (other : List ℕ) → other ≢ names.record_name → other ≢ names.report_name → other ≢ name) where
  pub before_same : (had : Option Had) (old new : Option Contents) (result : Result (Unit {0}) IoFault) → Keeps names form first had old choices episodes left → Adds old new name text result
      → before_of names had new ≡ before_of names had old
  before_same None old new result keeps added = refl
  before_same (Some had) None new result keeps added = absurd keeps
  before_same (Some had) (Some old) None result keeps added = absurd added
  before_same (Some had) (Some old) (Some new) (Ok done) keeps added = ap Some (had_same names had old new (λ other a b. added.others other (one other a b)))
  before_same (Some had) (Some old) (Some new) (Err fault) keeps (inl same) = ap Some (had_same names had old new (λ other a b. same.others other (one other a b)))
  before_same (Some had) (Some old) (Some new) (Err fault) keeps (inr (front, rest, is, added)) = ap Some (had_same names had old new (λ other a b. added.others other (one other a b)))

-- what was known of the files when the notes were made, with what else no call changes
abbrev fixed_by : {X : Type 0} → X → ℕ → Option Contents → Option (List FileCall) → Names → Form → (X × (Option Contents × ℕ)) × (Names × (Form × (Option Contents × Option (List FileCall))))
fixed_by files first before calls names form = ((files, (before, first)), (names, (form, (cond (first == 0) before None, calls))))

pub fixed_same : {X : Type 0} {files files_now : X} {first first_now : ℕ} {before before_now : Option Contents} {calls calls_now : Option (List FileCall)} (names : Names) (form : Form)
    → files_now ≡ files → first_now ≡ first → before_now ≡ before → calls_now ≡ calls → fixed_by files_now first_now before_now calls_now names form ≡ fixed_by files first before calls names form
fixed_same names form same same_first same_before same_calls = λ i. fixed_by (same i) (same_first i) (same_before i) (same_calls i) names form
