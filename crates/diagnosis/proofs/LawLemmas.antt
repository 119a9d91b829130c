-- A whole table beside the walk that follows it.
use Rattle.std.proofs.lemmas.Bool.{MatchBool-at_false, MatchBool-at_true, eq-eqb}
use Rattle.std.proofs.lemmas.Option.{none-some, same_Some}
use Rattle.session_notes.specs.declared.episode.Tried.{Tried}
use Rattle.trials.proofs.Walked.{all_timed, same_trial}
use Rattle.diagnosis.proofs.Terms.{Bool, List, Option, Some, [], ap, cond, eqb, false, refl, subst, suc, sym, true, ℕ, ◌&&◌, ◌++◌, ◌∙◌, ◌∷◌, ◌≡◌, All-head, All-tail, All, MatchBool, map, slice_get, Item, Send, Env, Limits, Override, AreBetween, Try, survives, Chance, IsRight, Trial, WalksOver, survivor_in, table, try_of, cured_at, cures, envs_at, envs_where}
use Rattle.diagnosis.specs.Laws.{TableBegins, VerdictAdopts}

begins_of : (limits : Limits) (items : List Item) (plan : List Override) (pieces : List Send) (point : ℕ) (chances : List Chance) (trials others : List Trial)
    → ((chance : Chance) (index : ℕ) → slice_get chances index ≡ Some chance → AreBetween 0 chance.checkpoint.state.machine.taken chance.checkpoint.state.sends)
    → WalksOver limits items plan pieces point chances trials → map (λ (t : Trial). t.chance) others ≡ chances → All (IsRight limits items plan pieces point) others → (more : List Try) × (map try_of others ≡ map try_of trials ++ more)
begins_of limits items plan pieces point [] [] others timed walks are right = (map try_of others, refl)
begins_of limits items plan pieces point [] (trial ∷ trials) others timed walks are right = absurd walks
begins_of limits items plan pieces point (chance ∷ chances) [] others timed walks are right = absurd walks
begins_of limits items plan pieces point (chance ∷ chances) (trial ∷ trials) [] timed walks are right = absurd (let no : ⊥ = cc in no)
begins_of limits items plan pieces point (chance ∷ chances) (trial ∷ trials) (other ∷ others) timed walks are right =
    let here : other.chance ≡ chance = cc in
    let behind : map (λ (t : Trial). t.chance) others ≡ chances = cc in
    let same = same_trial limits items plan pieces point trial other (walks.0 ∙ sym here)
    (subst (λ (c : Chance). AreBetween 0 c.checkpoint.state.machine.taken c.checkpoint.state.sends) (sym walks.0) (timed chance 0 refl)) walks.1 (All-head (IsRight limits items plan pieces point) other others right) in
    let first : try_of other ≡ try_of trial = told other.result (here ∙ sym walks.0) ∙ ap (λ (r : Tried). told_as trial.chance r) (sym same.result) in
    of_survives (survives trial.result) refl first
    (λ further. begins_of limits items plan pieces point chances trials others (λ c i h. timed c (suc i) h) further behind (All-tail (IsRight limits items plan pieces point) other others right)) walks.2
  where
    told_as : Chance → Tried → Try
    told_as c r = record { checkpoint = c.checkpoint.state.machine.taken; env = c.env; tried = r }

    told : (r : Tried) {one two : Chance} → one ≡ two → told_as one r ≡ told_as two r
    told r is = ap (λ (c : Chance). told_as c r) is

    of_survives : (b : Bool) → survives trial.result ≡ b → try_of other ≡ try_of trial
        → (WalksOver limits items plan pieces point chances trials → (more : List Try) × (map try_of others ≡ map try_of trials ++ more))
        → MatchBool (survives trial.result) (trials ≡ []) (WalksOver limits items plan pieces point chances trials)
        → (more : List Try) × (map try_of (other ∷ others) ≡ map try_of (trial ∷ trials) ++ more)
    of_survives true is first on by =
        let none = MatchBool-at_true (trials ≡ []) (WalksOver limits items plan pieces point chances trials) is by in
        (map try_of others, ap (λ (t : Try). t ∷ map try_of others) first ∙ ap (λ (l : List Trial). try_of trial ∷ (map try_of l ++ map try_of others)) (sym none))
    of_survives false is first on by =
        let rest = on (MatchBool-at_false (trials ≡ []) (WalksOver limits items plan pieces point chances trials) is by) in
        (rest.0, ap (λ (t : Try). t ∷ map try_of others) first ∙ ap (λ (l : List Try). try_of trial ∷ l) rest.1)

pub table_begins : TableBegins
table_begins limits items plan pieces point ring trials tries timed walks whole =
    let found = begins_of limits items plan pieces point (table ring) trials whole.trials (all_timed ring timed) walks whole.whole whole.right in
    (found.0, whole.tries_are ∙ found.1)

-- the first trial that survives gives the checkpoint of the verdict, and its first environment
cured_of : (trials : List Trial) (more : List Try) (trial : Trial) → survivor_in trials ≡ Some trial → cured_at (map try_of trials ++ more) ≡ Some trial.chance.checkpoint.state.machine.taken
cured_of [] more trial is = absurd (none-some trial is)
cured_of (first ∷ trials) more trial is = of (survives first.result) refl (cured_of trials more trial)
  where
    of : (b : Bool) → survives first.result ≡ b → (survivor_in trials ≡ Some trial → cured_at (map try_of trials ++ more) ≡ Some trial.chance.checkpoint.state.machine.taken)
        → cured_at (map try_of (first ∷ trials) ++ more) ≡ Some trial.chance.checkpoint.state.machine.taken
    of true so on =
        let one : first ≡ trial = same_Some first trial (sym (ap (λ (b : Bool). cond b (Some first) (survivor_in trials)) so) ∙ is) in
        ap (λ (b : Bool). cond b (Some first.chance.checkpoint.state.machine.taken) (cured_at (map try_of trials ++ more))) so ∙ ap (λ (t : Trial). Some t.chance.checkpoint.state.machine.taken) one
    of false so on =
        ap (λ (b : Bool). cond b (Some first.chance.checkpoint.state.machine.taken) (cured_at (map try_of trials ++ more))) so ∙ on (sym (ap (λ (b : Bool). cond b (Some first) (survivor_in trials)) so) ∙ is)

envs_of : (trials : List Trial) (more : List Try) (trial : Trial) → survivor_in trials ≡ Some trial
    → (others : List Env) × (envs_at trial.chance.checkpoint.state.machine.taken (map try_of trials ++ more) ≡ trial.chance.env ∷ others)
envs_of [] more trial is = absurd (none-some trial is)
envs_of (first ∷ trials) more trial is = of (survives first.result) refl (envs_of trials more trial)
  where
    taken : ℕ
    taken = trial.chance.checkpoint.state.machine.taken

    behind : List Env
    behind = envs_at trial.chance.checkpoint.state.machine.taken (map try_of trials ++ more)

    of : (b : Bool) → survives first.result ≡ b
        → (survivor_in trials ≡ Some trial → (others : List Env) × (envs_at trial.chance.checkpoint.state.machine.taken (map try_of trials ++ more) ≡ trial.chance.env ∷ others))
        → (others : List Env) × (envs_at trial.chance.checkpoint.state.machine.taken (map try_of (first ∷ trials) ++ more) ≡ trial.chance.env ∷ others)
    of true so on =
        let one : first ≡ trial = same_Some first trial (sym (ap (λ (b : Bool). cond b (Some first) (survivor_in trials)) so) ∙ is) in
        let at : eqb first.chance.checkpoint.state.machine.taken trial.chance.checkpoint.state.machine.taken ≡ true =
        eq-eqb first.chance.checkpoint.state.machine.taken trial.chance.checkpoint.state.machine.taken (ap (λ (t : Trial). t.chance.checkpoint.state.machine.taken) one) in (
          envs_at trial.chance.checkpoint.state.machine.taken (map try_of trials ++ more),
          ap (λ (b : Bool). cond (b && eqb first.chance.checkpoint.state.machine.taken trial.chance.checkpoint.state.machine.taken) (first.chance.env ∷ envs_at trial.chance.checkpoint.state.machine.taken (map try_of trials ++ more)) (envs_at trial.chance.checkpoint.state.machine.taken (map try_of trials ++ more))) so
              ∙ (ap (λ (b : Bool). cond b (first.chance.env ∷ envs_at trial.chance.checkpoint.state.machine.taken (map try_of trials ++ more)) (envs_at trial.chance.checkpoint.state.machine.taken (map try_of trials ++ more))) at
              ∙ ap (λ (t : Trial). t.chance.env ∷ envs_at trial.chance.checkpoint.state.machine.taken (map try_of trials ++ more)) one),
        )
    of false so on =
        let rest = on (sym (ap (λ (b : Bool). cond b (Some first) (survivor_in trials)) so) ∙ is) in (
          rest.0,
          ap (λ (b : Bool). cond (b && eqb first.chance.checkpoint.state.machine.taken trial.chance.checkpoint.state.machine.taken) (first.chance.env ∷ envs_at trial.chance.checkpoint.state.machine.taken (map try_of trials ++ more)) (envs_at trial.chance.checkpoint.state.machine.taken (map try_of trials ++ more))) so
              ∙ rest.1,
        )

pub verdict_adopts : VerdictAdopts
verdict_adopts limits items plan pieces point ring trials trial tries timed walks whole is =
    let table_is = table_begins limits items plan pieces point ring trials tries timed walks whole in
    let found = envs_of trials table_is.0 trial is in
    (found.0, ap cures table_is.1 ∙ (ap (λ (at : Option ℕ). envs_where at (map try_of trials ++ table_is.0)) (cured_of trials table_is.0 trial is) ∙ found.1))
