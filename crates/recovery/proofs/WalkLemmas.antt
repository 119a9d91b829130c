-- A walk goes on from chance to chance.
use Rattle.std.proofs.lemmas.List.Sums.{sum_by-append}
use Rattle.recovery.proofs.Terms.{Bool, List, None, Option, Some, [], ap, append-nil, append_assoc, arith, cond, false, length, refl, subst, suc, sym, take, true, zero, ℕ, ◌++◌, ◌+◌, ◌-◌, ◌∙◌, ◌∷◌, ◌≡◌, ◌≤◌, MatchBool-at_false, MatchBool-at_true, map-append, take_all, none-some, same_Some, MatchBool, map, slice_get, sum, Choice, Heap, Env, Ledger, discarded, Path, CpuState, Try, survives, Chance, IsRight, Trial, WalksOver, chances_at, environments, survivor_in, table, try_of, Recoverable, Adopted, FailedAt, Failure, IsUnder, items_of, pieces_of, HasWalked, KeepsLedger, steps_of, Attempt, BeginsOver, AdoptedLast, AdoptedOne, AreTried, FailedOne, FailedSome, HasBegun, KeepsUntried}
use Rattle.recovery.proofs.Adopting.{adopted_survives}
use Rattle.session_history.proofs.Connected.{take_one}

steps_of-append : (xs ys : List Trial) → steps_of (xs ++ ys) ≡ steps_of xs + steps_of ys
steps_of-append xs ys =
    let f : Trial → ℕ = λ (t : Trial). t.path.steps - t.chance.checkpoint.steps in
    ap sum (map-append f xs ys) ∙ sum_by-append (λ x. x) (map f xs) (map f ys)

pub steps_of-more : (trials : List Trial) (trial : Trial) → steps_of (trials ++ trial ∷ []) ≡ steps_of trials + (trial.path.steps - trial.chance.checkpoint.steps)
steps_of-more trials trial = omega (arith, steps_of-append trials (trial ∷ []))

-- a list around one of its elements
around : {X : Type 0} (xs : List X) (n : ℕ) (x : X) → slice_get xs n ≡ Some x → (more : List X) × (xs ≡ take n xs ++ x ∷ more)
around [] n x is = absurd (none-some x is)
around (y ∷ ys) zero x is = (ys, ap (λ z. z ∷ ys) (same_Some y x is))
around (y ∷ ys) (suc n) x is = let r = around ys n x is in (r.0, ap (λ l. y ∷ l) r.1)

table-append : (xs ys : List Path) → table (xs ++ ys) ≡ table xs ++ table ys
table-append [] ys = refl
table-append (x ∷ xs) ys = ap (λ l. chances_at x environments ++ l) (table-append xs ys) ∙ sym (append_assoc (chances_at x environments) (table xs) (table ys))

-- chances that were tried, and more
tried-append : (failure : Failure) (point : ℕ) (chances more : List Chance) (trials others : List Trial) → AreTried failure point chances trials → AreTried failure point more others → AreTried failure point (chances ++ more) (trials ++ others)
tried-append failure point [] more [] others are also = also
tried-append failure point (chance ∷ chances) more (trial ∷ trials) others are also = (are.0, are.1, are.2, tried-append failure point chances more trials others are.3 also)
tried-append failure point _ more _ others are also = absurd are

abbrev Walks : Failure → ℕ → List Chance → List Trial → Type 0
Walks failure point chances trials = WalksOver failure.rules.limits (items_of failure) failure.plan (pieces_of failure) point chances trials

-- all were tried, and none survived
tried_walks : (failure : Failure) (point : ℕ) (chances : List Chance) (trials : List Trial) → AreTried failure point chances trials → Walks failure point chances trials
tried_walks failure point [] [] are = tt
tried_walks failure point (chance ∷ chances) (trial ∷ trials) are =
    (are.0, are.1, subst (λ (b : Bool). MatchBool b (trials ≡ []) (Walks failure point chances trials)) (sym are.2) (tried_walks failure point chances trials are.3))
tried_walks failure point _ _ are = are

-- those before one that survived
found_walks : (failure : Failure) {point : ℕ} (front more : List Chance) {chance : Chance} (trials : List Trial) {last : Trial} → AreTried failure point front trials → last.chance ≡ chance
    → IsRight failure.rules.limits (items_of failure) failure.plan (pieces_of failure) point last → survives last.result ≡ true → Walks failure point (front ++ chance ∷ more) (trials ++ last ∷ [])
found_walks failure {point = point} [] more [] are is right survived = (is, right, let none : List Trial = [] in subst (λ (b : Bool). MatchBool b (none ≡ none) (Walks failure point more none)) (sym survived) refl)
found_walks failure [] more (trial ∷ trials) are is right survived = absurd are
found_walks failure (first ∷ front) more [] are is right survived = absurd are
found_walks failure {point = point} (first ∷ front) more {chance = chance} (trial ∷ trials) {last = last} are is right survived =
    (are.0, are.1, subst (λ (b : Bool). MatchBool b (trials ++ last ∷ [] ≡ []) (Walks failure point (front ++ chance ∷ more) (trials ++ last ∷ []))) (sym are.2) (found_walks failure front more trials are.3 is right survived))

-- of some that failed none survived, and of one more that did this one
tried_none : (failure : Failure) (point : ℕ) (chances : List Chance) (trials : List Trial) → AreTried failure point chances trials → survivor_in trials ≡ None
tried_none failure point [] [] are = refl
tried_none failure point (chance ∷ chances) (trial ∷ trials) are = ap (λ (b : Bool). cond b (Some trial) (survivor_in trials)) are.2 ∙ tried_none failure point chances trials are.3
tried_none failure point _ _ are = absurd are

tried_then : (failure : Failure) (point : ℕ) (chances : List Chance) (trials : List Trial) {last : Trial} → AreTried failure point chances trials → survives last.result ≡ true → survivor_in (trials ++ last ∷ []) ≡ Some last
tried_then failure point [] [] {last = last} are survived = ap (λ (b : Bool). cond b (Some last) None) survived
tried_then failure point (chance ∷ chances) (trial ∷ trials) {last = last} are survived =
    ap (λ (b : Bool). cond b (Some trial) (survivor_in (trials ++ last ∷ []))) are.2 ∙ tried_then failure point chances trials are.3 survived
tried_then failure point _ _ are survived = absurd are

abbrev Begins : Failure → ℕ → List Chance → List Trial → Option Attempt → Type 0
Begins failure point chances trials last = BeginsOver failure.rules.limits (items_of failure) failure.plan (pieces_of failure) point chances trials last

-- of more chances the first were tried so
begins_more : (failure : Failure) (point : ℕ) (chances more : List Chance) (trials : List Trial) (last : Option Attempt) → Begins failure point chances trials last → Begins failure point (chances ++ more) trials last
begins_more failure point chances more [] None begins = tt
begins_more failure point chances more [] (Some attempt) begins = record { others = begins.others ++ more; first = ap (λ (l : List Chance). l ++ more) begins.first; from = begins.from }
begins_more failure point [] more (trial ∷ trials) last begins = absurd begins
begins_more failure point (chance ∷ chances) more (trial ∷ trials) last begins = (begins.0, begins.1, begins.2, begins_more failure point chances more trials last begins.3)

-- and so it is behind some that were tried
begins_behind : (failure : Failure) (point : ℕ) (front chances : List Chance) (tried trials : List Trial) (last : Option Attempt) → AreTried failure point front tried → Begins failure point chances trials last → Begins failure point (front ++ chances) (tried ++ trials) last
begins_behind failure point [] chances [] trials last are begins = begins
begins_behind failure point (chance ∷ front) chances (trial ∷ tried) trials last are begins = (are.0, are.1, are.2, begins_behind failure point front chances tried trials last are.3 begins)
begins_behind failure point _ chances _ trials last are begins = absurd are

-- memory broke off a walk behind some chances that were tried, and before others
begun_within : {failure : Failure} {point : ℕ} (front : List Chance) {chances : List Chance} (more : List Chance) {noted mid : List Try} {before between after : ℕ} → FailedSome failure point front noted mid before between
    → HasBegun failure point chances between after → HasBegun failure point (front ++ (chances ++ more)) before after
begun_within {failure = failure} {point = point} front {chances = chances} more some one = record {
  unfinished = record { trials = some.trials ++ one.unfinished.trials; last = one.unfinished.last };
  begins = begins_behind failure point front (chances ++ more) some.trials one.unfinished.trials one.unfinished.last some.tried
      (begins_more failure point chances more one.unfinished.trials one.unfinished.last one.begins);
  counted = let both = steps_of-append some.trials one.unfinished.trials in omega (arith, both, some.counted, one.counted);
}

-- so it is within the chances of a checkpoint
pub begun_env : {failure : Failure} {point : ℕ} {checkpoint : Path} (place : ℕ) {env : Env} {noted mid : List Try} {before between after : ℕ} → slice_get environments place ≡ Some env
    → FailedSome failure point (chances_at checkpoint (take place environments)) noted mid before between → HasBegun failure point (record { checkpoint = checkpoint; env = env } ∷ []) between after
    → HasBegun failure point (chances_at checkpoint environments) before after
begun_env {failure = failure} {point = point} {checkpoint = checkpoint} place {env = env} {before = before} {after = after} is some one =
    let envs = around environments place env is in
    subst (λ (all : List Chance). HasBegun failure point all before after)
    (sym (ap (chances_at checkpoint) envs.1 ∙ map-append (λ (e : Env). record { checkpoint = checkpoint; env = e }) (take place environments) (env ∷ envs.0)))
    (begun_within (chances_at checkpoint (take place environments)) (chances_at checkpoint envs.0) some one)

-- and within those of a ring
pub begun_checkpoint : {failure : Failure} {point : ℕ} (index : ℕ) {checkpoint : Path} {noted mid : List Try} {before between after : ℕ} → slice_get failure.ring index ≡ Some checkpoint
    → FailedSome failure point (table (take index failure.ring)) noted mid before between → HasBegun failure point (chances_at checkpoint environments) between after → HasBegun failure point (table failure.ring) before after
begun_checkpoint {failure = failure} {point = point} index {checkpoint = checkpoint} {before = before} {after = after} is some one =
    let ring = around failure.ring index checkpoint is in
    subst (λ (all : List Chance). HasBegun failure point all before after)
    (sym (ap table ring.1 ∙ table-append (take index failure.ring) (checkpoint ∷ ring.0)))
    (begun_within (table (take index failure.ring)) (table ring.0) some one)

-- a walk that ended with a trial that survived, but wasn't adopted
begins_all : (failure : Failure) (point : ℕ) (chances : List Chance) (trials : List Trial) {trial : Trial} → Walks failure point chances trials → survivor_in trials ≡ Some trial
    → (failing : List Trial) × (trials ≡ failing ++ trial ∷ []) × Begins failure point chances failing (Some (record { chance = trial.chance; path = trial.path }))
begins_all failure point [] [] {trial = trial} walks found = absurd (none-some trial found)
begins_all failure point [] (one ∷ trials) walks found = absurd walks
begins_all failure point (chance ∷ chances) [] walks found = absurd walks
begins_all failure point (chance ∷ chances) (one ∷ trials) {trial = trial} walks found = by (survives one.result) refl (begins_all failure point chances trials {trial = trial})
  where
    by : (b : Bool) → survives one.result ≡ b → (Walks failure point chances trials → survivor_in trials ≡ Some trial → (failing : List Trial) × (trials ≡ failing ++ trial ∷ []) × Begins failure point chances failing (Some (record { chance = trial.chance; path = trial.path })))
        → (failing : List Trial) × (one ∷ trials ≡ failing ++ trial ∷ []) × Begins failure point (chance ∷ chances) failing (Some (record { chance = trial.chance; path = trial.path }))
    by true is rest =
        let none : trials ≡ [] = MatchBool-at_true (trials ≡ []) (Walks failure point chances trials) is walks.2 in
        let same : one ≡ trial = same_Some one trial (sym (ap (λ (b : Bool). cond b (Some one) (survivor_in trials)) is) ∙ found) in (
          [],
          (λ i. same i ∷ none i),
          subst (λ (t : Trial). Begins failure point (chance ∷ chances) [] (Some (record { chance = t.chance; path = t.path }))) same
              (record { others = chances; first = ap (λ (c : Chance). c ∷ chances) (sym walks.0); from = walks.1.from }),
        )
    by false is rest =
        let later = rest (MatchBool-at_false (trials ≡ []) (Walks failure point chances trials) is walks.2) (sym (ap (λ (b : Bool). cond b (Some one) (survivor_in trials)) is) ∙ found) in
        (one ∷ later.0, ap (λ (l : List Trial). one ∷ l) later.1, (walks.0, walks.1, is, later.2))

failed_more : {failure : Failure} {point : ℕ} {chances : List Chance} {chance : Chance} {noted mid new : List Try} {before between after : ℕ} → FailedSome failure point chances noted mid before between → FailedOne failure point chance mid new between after
    → FailedSome failure point (chances ++ chance ∷ []) noted new before after
failed_more {failure = failure} {point = point} {chances = chances} {chance = chance} {noted = noted} some one = record {
  trials = some.trials ++ one.trial ∷ [];
  tried = tried-append failure point chances (chance ∷ []) some.trials (one.trial ∷ []) some.tried (one.made.chance_is, one.made.right, one.failed, tt);
  tries_are = one.made.tries_are
      ∙ (ap (λ (all : List Try). all ++ try_of one.trial ∷ []) some.tries_are ∙ (append_assoc noted (map try_of some.trials) (try_of one.trial ∷ []) ∙ ap (λ (all : List Try). noted ++ all) (sym (map-append try_of some.trials (one.trial ∷ [])))));
  counted = let more = steps_of-more some.trials one.trial in omega (arith, more, some.counted, one.made.counted);
}

-- the chances of a checkpoint in one environment more
pub failed_env : {failure : Failure} {point : ℕ} {checkpoint : Path} (place : ℕ) {env : Env} {noted mid new : List Try} {before between after : ℕ} → slice_get environments place ≡ Some env
    → FailedSome failure point (chances_at checkpoint (take place environments)) noted mid before between → FailedOne failure point (record { checkpoint = checkpoint; env = env }) mid new between after
    → FailedSome failure point (chances_at checkpoint (take (place + 1) environments)) noted new before after
failed_env {failure = failure} {point = point} {checkpoint = checkpoint} place {env = env} {noted = noted} {new = new} {before = before} {after = after} is some one =
    subst (λ (all : List Chance). FailedSome failure point all noted new before after)
    (sym (ap (chances_at checkpoint) (take_one environments place env is) ∙ map-append (λ (e : Env). record { checkpoint = checkpoint; env = e }) (take place environments) (env ∷ [])))
    (failed_more some one)

-- and of one checkpoint more
pub failed_checkpoint : {failure : Failure} {point : ℕ} (index : ℕ) {checkpoint : Path} {noted mid new : List Try} {before between after : ℕ} → slice_get failure.ring index ≡ Some checkpoint → FailedSome failure point (table (take index failure.ring)) noted mid before between
    → FailedSome failure point (chances_at checkpoint environments) mid new between after → FailedSome failure point (table (take (index + 1) failure.ring)) noted new before after
failed_checkpoint {failure = failure} {point = point} index {checkpoint = checkpoint} {noted = noted} {new = new} {before = before} {after = after} is some others =
    subst (λ (all : List Chance). FailedSome failure point all noted new before after)
    (sym (ap table (take_one failure.ring index checkpoint is) ∙ (table-append (take index failure.ring) (checkpoint ∷ []) ∙ ap (λ (all : List Chance). table (take index failure.ring) ++ all) (append-nil (chances_at checkpoint environments)))))
    (record {
      trials = some.trials ++ others.trials;
      tried = tried-append failure point (table (take index failure.ring)) (chances_at checkpoint environments) some.trials others.trials some.tried others.tried;
      tries_are = others.tries_are
          ∙ (ap (λ (all : List Try). all ++ map try_of others.trials) some.tries_are ∙ (append_assoc noted (map try_of some.trials) (map try_of others.trials) ∙ ap (λ (all : List Try). noted ++ all) (sym (map-append try_of some.trials others.trials))));
      counted = let parts = steps_of-append some.trials others.trials in omega (arith, parts, some.counted, others.counted);
    })

module _ {R : Type 0} where
  -- behind those that failed one was adopted
  pub adopted_env : {failure : Failure} {point : ℕ} {checkpoint : Path} (place : ℕ) {env : Env} {adopted : Adopted} {cpu : CpuState R} {choices : List Choice} {ledger : Ledger} {noted mid new : List Try} {before between after : ℕ} → slice_get environments place ≡ Some env
      → FailedSome failure point (chances_at checkpoint (take place environments)) noted mid before between → AdoptedOne failure point (record { checkpoint = checkpoint; env = env }) adopted cpu choices ledger mid new between after
      → AdoptedLast failure point checkpoint adopted cpu choices ledger noted new before after
  adopted_env place {env = env} {noted = noted} is some one = record {
    trials = some.trials;
    place = place;
    env = env;
    env_is = is;
    tried = some.tried;
    last = one.trial;
    chance_is = one.made.chance_is;
    right = one.made.right;
    tries_are = one.made.tries_are
        ∙ (ap (λ (all : List Try). all ++ try_of one.trial ∷ []) some.tries_are ∙ (append_assoc noted (map try_of some.trials) (try_of one.trial ∷ []) ∙ ap (λ (all : List Try). noted ++ all) (sym (map-append try_of some.trials (one.trial ∷ [])))));
    counted = let more = steps_of-more some.trials one.trial in omega (arith, more, some.counted, one.made.counted);
    adopts = one.adopts;
  }

  -- a walk over the whole table
  pub walked_none : {failure : Failure} {point : ℕ} {cpu : CpuState R} {choices : List Choice} {old new : Ledger} {before after : ℕ} {tries : List Try} → FailedSome failure point (table failure.ring) [] tries before after → new ≡ discarded old
      → HasWalked failure point cpu choices old new before after tries None
  walked_none {failure = failure} {point = point} some is = record {
    trials = some.trials;
    tries_are = some.tries_are;
    walks = tried_walks failure point (table failure.ring) some.trials some.tried;
    leaves = (tried_none failure point (table failure.ring) some.trials some.tried, is);
    counted = some.counted;
  }

module _ {R : Type 0} where
  -- memory ran out before the trial that survived was adopted
  pub walked_unfinished : {failure : Failure} {point : ℕ} {trial : Trial} {cpu : CpuState R} {choices : List Choice} {old new : Ledger} {before after : ℕ} {tries : List Try} {adopted : Option Adopted} (w : HasWalked failure point cpu choices old new before after tries adopted)
      → survivor_in w.trials ≡ Some trial → HasBegun failure point (table failure.ring) before after
  walked_unfinished {failure = failure} {point = point} {trial = trial} w found =
      let all = begins_all failure point (table failure.ring) w.trials {trial = trial} w.walks found in
      record {
        unfinished = record { trials = all.0; last = Some (record { chance = trial.chance; path = trial.path }) };
        begins = all.2;
        counted = let more = steps_of-more all.0 trial in let same = ap steps_of all.1 in omega (arith, same, more, w.counted);
      }

module _ {R : Type 0} where
  -- a walk up to a trial that was adopted
  pub walked_found : {failure : Failure} {point : ℕ} (index : ℕ) {checkpoint : Path} {adopted : Adopted} {cpu : CpuState R} {choices : List Choice} {old new : Ledger} {before between after : ℕ} {mid tries : List Try} → slice_get failure.ring index ≡ Some checkpoint
      → FailedSome failure point (table (take index failure.ring)) [] mid before between → AdoptedLast failure point checkpoint adopted cpu choices new mid tries between after
      → HasWalked failure point cpu choices old new before after tries (Some adopted)
  walked_found {failure = failure} {point = point} index {checkpoint = checkpoint} {adopted = adopted} is some a =
      let chance : Chance = record { checkpoint = checkpoint; env = a.env } in
      let early : List Chance = table (take index failure.ring) in
      let here : List Chance = chances_at checkpoint (take a.place environments) in
      let ring = around failure.ring index checkpoint is in
      let envs = around environments a.place a.env a.env_is in
      let split : table failure.ring ≡ (table (take index failure.ring) ++ chances_at checkpoint (take a.place environments)) ++ record { checkpoint = checkpoint; env = a.env } ∷ (chances_at checkpoint envs.0 ++ table ring.0) =
      ap table ring.1
      ∙ (table-append (take index failure.ring) (checkpoint ∷ ring.0)
      ∙ (ap (λ (all : List Env). table (take index failure.ring) ++ (chances_at checkpoint all ++ table ring.0)) envs.1
      ∙ (ap (λ (all : List Chance). table (take index failure.ring) ++ (all ++ table ring.0)) (map-append (λ (e : Env). record { checkpoint = checkpoint; env = e }) (take a.place environments) (a.env ∷ envs.0))
      ∙ (ap (λ (all : List Chance). table (take index failure.ring) ++ all) (append_assoc (chances_at checkpoint (take a.place environments)) (record { checkpoint = checkpoint; env = a.env } ∷ chances_at checkpoint envs.0) (table ring.0))
      ∙ sym (append_assoc (table (take index failure.ring)) (chances_at checkpoint (take a.place environments)) (record { checkpoint = checkpoint; env = a.env } ∷ (chances_at checkpoint envs.0 ++ table ring.0))))))) in
      let trials : List Trial = some.trials ++ a.trials in
      let tried = tried-append failure point early here some.trials a.trials some.tried a.tried in
      let survived = adopted_survives adopted.index adopted.env a.last.result a.adopts.adopted_is in
      record {
        trials = (some.trials ++ a.trials) ++ a.last ∷ [];
        tries_are = a.tries_are
            ∙ (ap (λ (l : List Try). l ++ map try_of (a.trials ++ a.last ∷ [])) some.tries_are
            ∙ (sym (map-append try_of some.trials (a.trials ++ a.last ∷ [])) ∙ ap (map try_of) (sym (append_assoc some.trials a.trials (a.last ∷ [])))));
        walks = subst (λ (all : List Chance). Walks failure point all ((some.trials ++ a.trials) ++ a.last ∷ [])) (sym split)
            (found_walks failure (early ++ here) (chances_at checkpoint envs.0 ++ table ring.0) trials tried a.chance_is a.right survived);
        leaves = (a.last, tried_then failure point (early ++ here) trials tried survived, a.adopts);
        counted = let parts = ap steps_of (append_assoc some.trials a.trials (a.last ∷ [])) ∙ steps_of-append some.trials (a.trials ++ a.last ∷ []) in omega (arith, parts, some.counted, a.counted);
      }

  -- what holds of the loop over environments, and of that over checkpoints
  pub record TriedUpTo (permits : R → Heap → ℕ → ℕ → Bool) (budget point : ℕ) (index : ℕ) (began now : Recoverable R) (before after : ℕ) (noted tries : List Try) (place : ℕ) : Type 0 where
    pub kept : KeepsUntried began now
    pub ledger : KeepsLedger began.replies now.replies
    pub tried : (failure : Failure) (checkpoint : Path) → IsUnder failure budget (permits began.cpu.rule) → FailedAt point failure began.cpu began.log began.replies → slice_get failure.ring index ≡ Some checkpoint
        → FailedSome failure point (chances_at checkpoint (take place environments)) noted tries before after
    pub least : before ≤ after

  pub record WalkedUpTo (permits : R → Heap → ℕ → ℕ → Bool) (budget point : ℕ) (began now : Recoverable R) (before after : ℕ) (tries : List Try) (index : ℕ) : Type 0 where
    pub kept : KeepsUntried began now
    pub ledger : KeepsLedger began.replies now.replies
    pub tried : (failure : Failure) → IsUnder failure budget (permits began.cpu.rule) → FailedAt point failure began.cpu began.log began.replies → FailedSome failure point (table (take index failure.ring)) [] tries before after
    pub least : before ≤ after

-- a walk past the last checkpoint has tried the whole table
pub failed_all : {failure : Failure} {point index : ℕ} {noted new : List Try} {before after : ℕ} → length failure.ring ≤ index → FailedSome failure point (table (take index failure.ring)) noted new before after
    → FailedSome failure point (table failure.ring) noted new before after
failed_all {failure = failure} {point = point} {index = index} {noted = noted} {new = new} {before = before} {after = after} past some = subst (λ (all : List Path). FailedSome failure point (table all) noted new before after) (take_all index failure.ring past) some
