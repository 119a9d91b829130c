-- Chances of a table are tried one after another.
use Rattle.std.proofs.lemmas.List.{map-append, take_all}
use Rattle.block_book.specs.Heap.{Heap}
use Rattle.session_history.proofs.Connected.{take_one}
use Rattle.recovery.specs.declared.recoverable.Recoverable.{Recoverable}
use Rattle.recovery.specs.Recoverables.{KeepsUntried}
use Rattle.recovery.specs.Trying.{KeepsLedger}
use Rattle.recovery.specs.Walking.{IsMade}
use Rattle.diagnosis.proofs.Terms.{AllocError, Bool, List, Some, [], ap, append-nil, append_assoc, length, refl, subst, sym, take, ℕ, ◌++◌, ◌+◌, ◌∙◌, ◌∷◌, ◌≡◌, ◌≤◌, All-append, All-cons, All-nil, Err, Ok, OnOk, Result, map, slice_get, Env, Path, Try, Chance, IsRight, Trial, chances_at, environments, table, try_of, FailedAt, Failure, IsUnder, items_of, pieces_of, IsTableOf, NotesBy, NotesTries}

table-append : (xs ys : List Path) → table (xs ++ ys) ≡ table xs ++ table ys
table-append [] ys = refl
table-append (x ∷ xs) ys = ap (λ l. chances_at x environments ++ l) (table-append xs ys) ∙ sym (append_assoc (chances_at x environments) (table xs) (table ys))

-- none was tried yet
pub notes_none : {failure : Failure} {point : ℕ} {noted : List Try} → NotesTries failure point [] noted noted
notes_none {failure = failure} {point = point} {noted = noted} = record {
  trials = [];
  chances_are = refl;
  right = All-nil (IsRight failure.rules.limits (items_of failure) failure.plan (pieces_of failure) point);
  tries_are = sym (append-nil noted);
}

-- one was
pub notes_one : {failure : Failure} {point : ℕ} {chance : Chance} {trial : Trial} {noted tries : List Try} {before after : ℕ} → IsMade failure point chance trial noted tries before after → NotesTries failure point (chance ∷ []) noted tries
notes_one {failure = failure} {point = point} {trial = trial} made = record {
  trials = trial ∷ [];
  chances_are = ap (λ (c : Chance). c ∷ []) made.chance_is;
  right =
      All-cons (IsRight failure.rules.limits (items_of failure) failure.plan (pieces_of failure) point) trial [] made.right (All-nil (IsRight failure.rules.limits (items_of failure) failure.plan (pieces_of failure) point));
  tries_are = made.tries_are;
}

-- it was noted, or memory ran out
pub noted_by : {P : Type 0} {failure : Failure} {point : ℕ} {chances : List Chance} {old new : List Try} (result : Result (Unit {0}) AllocError) → (P → NotesTries failure point chances old new) → OnOk result P → NotesBy failure point chances old new result
noted_by (Ok done) made on = made on
noted_by (Err fault) made on = tt

-- and more
pub notes_more : {failure : Failure} {point : ℕ} {chances more : List Chance} {noted mid new : List Try} → NotesTries failure point chances noted mid → NotesTries failure point more mid new → NotesTries failure point (chances ++ more) noted new
notes_more {failure = failure} {point = point} {chances = chances} {more = more} {noted = noted} some others = record {
  trials = some.trials ++ others.trials;
  chances_are = map-append (λ (t : Trial). t.chance) some.trials others.trials ∙ (ap (λ (l : List Chance). l ++ map (λ (t : Trial). t.chance) others.trials) some.chances_are ∙ ap (λ (l : List Chance). chances ++ l) others.chances_are);
  right = All-append (IsRight failure.rules.limits (items_of failure) failure.plan (pieces_of failure) point) some.trials others.trials some.right others.right;
  tries_are = others.tries_are
      ∙ (ap (λ (all : List Try). all ++ map try_of others.trials) some.tries_are ∙ (append_assoc noted (map try_of some.trials) (map try_of others.trials) ∙ ap (λ (all : List Try). noted ++ all) (sym (map-append try_of some.trials others.trials))));
}

-- the chances of a checkpoint in one environment more
pub notes_env : {failure : Failure} {point : ℕ} {checkpoint : Path} (place : ℕ) {env : Env} {noted mid new : List Try} → slice_get environments place ≡ Some env → NotesTries failure point (chances_at checkpoint (take place environments)) noted mid
    → NotesTries failure point (record { checkpoint = checkpoint; env = env } ∷ []) mid new → NotesTries failure point (chances_at checkpoint (take (place + 1) environments)) noted new
notes_env {failure = failure} {point = point} {checkpoint = checkpoint} place {env = env} {noted = noted} {new = new} is some one =
    subst (λ (all : List Chance). NotesTries failure point all noted new)
    (sym (ap (chances_at checkpoint) (take_one environments place env is) ∙ map-append (λ (e : Env). record { checkpoint = checkpoint; env = e }) (take place environments) (env ∷ [])))
    (notes_more some one)

-- those in all environments
pub notes_envs : {failure : Failure} {point : ℕ} {checkpoint : Path} {place : ℕ} {noted new : List Try} → length environments ≤ place → NotesTries failure point (chances_at checkpoint (take place environments)) noted new
    → NotesTries failure point (chances_at checkpoint environments) noted new
notes_envs {failure = failure} {point = point} {checkpoint = checkpoint} {place = place} {noted = noted} {new = new} past some =
    subst (λ (all : List Env). NotesTries failure point (chances_at checkpoint all) noted new) (take_all place environments past) some

-- and of one checkpoint more
pub notes_checkpoint : {failure : Failure} {point : ℕ} (index : ℕ) {checkpoint : Path} {noted mid new : List Try} → slice_get failure.ring index ≡ Some checkpoint → NotesTries failure point (table (take index failure.ring)) noted mid
    → NotesTries failure point (chances_at checkpoint environments) mid new → NotesTries failure point (table (take (index + 1) failure.ring)) noted new
notes_checkpoint {failure = failure} {point = point} index {checkpoint = checkpoint} {noted = noted} {new = new} is some others =
    subst (λ (all : List Chance). NotesTries failure point all noted new)
    (sym (ap table (take_one failure.ring index checkpoint is) ∙ (table-append (take index failure.ring) (checkpoint ∷ []) ∙ ap (λ (all : List Chance). table (take index failure.ring) ++ all) (append-nil (chances_at checkpoint environments)))))
    (notes_more some others)

-- those of the whole table, behind no others
pub notes_table : {failure : Failure} {point index : ℕ} {tries : List Try} → length failure.ring ≤ index → NotesTries failure point (table (take index failure.ring)) [] tries → IsTableOf failure point tries
notes_table {failure = failure} {point = point} {index = index} past some = record {
  trials = some.trials;
  tries_are = some.tries_are;
  whole = some.chances_are ∙ ap table (take_all index failure.ring past);
  right = some.right;
}

module _ {R : Type 0} where
  -- what holds of the loop over environments, and of that over checkpoints
  pub record ExaminedEnvs (permits : R → Heap → ℕ → ℕ → Bool) (budget point index : ℕ) (began now : Recoverable R) (before after : ℕ) (noted tries : List Try) (place : ℕ) : Type 0 where
    pub kept : KeepsUntried began now
    pub ledger : KeepsLedger began.replies now.replies
    pub notes : (failure : Failure) (checkpoint : Path) → IsUnder failure budget (permits began.cpu.rule) → FailedAt point failure began.cpu began.log began.replies → slice_get failure.ring index ≡ Some checkpoint
        → NotesTries failure point (chances_at checkpoint (take place environments)) noted tries
    pub least : before ≤ after

  pub record ExaminedRing (permits : R → Heap → ℕ → ℕ → Bool) (budget point : ℕ) (began now : Recoverable R) (before after : ℕ) (tries : List Try) (index : ℕ) : Type 0 where
    pub kept : KeepsUntried began now
    pub ledger : KeepsLedger began.replies now.replies
    pub notes : (failure : Failure) → IsUnder failure budget (permits began.cpu.rule) → FailedAt point failure began.cpu began.log began.replies → NotesTries failure point (table (take index failure.ring)) [] tries
    pub least : before ≤ after
