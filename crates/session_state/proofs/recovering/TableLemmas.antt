-- The tables that a watch tells of a session.
use Rattle.session_history.specs.declared.ends.Stop.TheVariants as stop
use Rattle.session_history.specs.declared.ends.SessionBreak.TheVariants as session_break
use Rattle.session_state.proofs.Terms.{List, None, Option, Some, [], ap, append-nil, append_assoc, arith, length, refl, subst, sym, ℕ, ◌++◌, ◌+◌, ◌-◌, ◌∙◌, ◌∷◌, ◌≡◌, ◌≢◌, Entry, Told, Seen, Image, Answer, Stop, Chapter, Rules, entries_of, Try, Noted, Shown, Recovery, Keeping, TellsMore, SessionState, AreAllTables, AreLastTables, AreTables, HasWatched, IsTable, Outcome, Telling, Walk, walk_behind, IsTold, Since, unwatched, HasServedLink}
use Rattle.session_state.specs.Recovered.{Story, entries}

-- tables of which something holds
abbrev pub Holding : Type 1
Holding = List (List Try) → Type 0

-- one table more is told, that of a recovery
abbrev pub TellsOne : Rules → List Entry → Recovery → Option (List (List Try)) → Option (List (List Try)) → Type 0
TellsOne rules entries recovery old new = TellsMore old new (λ more. (tries : List Try) × (more ≡ tries ∷ []) × IsTable rules entries recovery tries)

-- what holds of the tables that are told more
pub tells_so : (old new : Option (List (List Try))) (P Q : Holding) → ((more : List (List Try)) → P more → Q more) → TellsMore old new P → TellsMore old new Q
tells_so None new P Q then tells = tells
tells_so (Some tables) new P Q then tells = (tells.0, tells.1, then tells.0 tells.2)

-- none is told more
pub tells_none : (told : Option (List (List Try))) (P : Holding) → P [] → TellsMore told told P
tells_none None P holds = refl
tells_none (Some tables) P holds = ([], ap Some (sym (append-nil tables)), holds)

-- some are told, and others behind them
pub tells_then : (old mid new : Option (List (List Try))) (P Q S : Holding) → ((first later : List (List Try)) → P first → Q later → S (first ++ later)) → TellsMore old mid P → TellsMore mid new Q → TellsMore old new S
tells_then None mid new P Q S both one other = subst (λ (told : Option (List (List Try))). TellsMore told new Q) one other
tells_then (Some tables) mid new P Q S both one other =
    let next : TellsMore (Some (tables ++ one.0)) new Q = subst (λ (told : Option (List (List Try))). TellsMore told new Q) one.1 other in
    (one.0 ++ next.0, next.1 ∙ ap Some (append_assoc tables one.0 next.0), both one.0 next.0 one.2 next.2)

-- a story that is told, whoever watches
pub told_unwatched : {rules : Rules} {image : Image} {began : Since} {now : Told} {story : Story} → IsTold rules image began now story → IsTold rules image (unwatched began) now story
told_unwatched told = record {
  serving = told.serving;
  way = told.way;
  tells = told.tells;
  counted = told.counted;
  recovered = told.recovered;
  episodes = told.episodes;
  tables = refl;
}

-- no trials were made behind the last survivor
pub tables_here : (rules : Rules) (story : Story) (why : Stop) (old new : Option (List (List Try))) → TellsMore old new (AreTables rules [] story.earlier story.recoveries) → TellsMore old new (AreAllTables rules story None why)
tables_here rules story why old new =
    tells_so old new (AreTables rules [] story.earlier story.recoveries) (AreAllTables rules story None why)
    (λ more are. record { each = more; behind = []; all = sym (append-nil more); each_right = are; behind_right = (omega arith, λ others. refl) })

-- memory ran out while they were made: one table more may be told
pub tables_memory : (rules : Rules) (story : Story) (recovery : Recovery) (old mid new : Option (List (List Try))) → TellsMore old mid (AreTables rules [] story.earlier story.recoveries)
    → TellsOne rules (entries story) recovery mid new → TellsMore old new (AreAllTables rules story None (stop.Breaks session_break.Memory))
tables_memory rules story recovery old mid new =
    tells_then old mid new (AreTables rules [] story.earlier story.recoveries) (λ more. (tries : List Try) × (more ≡ tries ∷ []) × IsTable rules (entries story) recovery tries) (AreAllTables rules story None (stop.Breaks session_break.Memory))
    (λ first later are one. record { each = first; behind = later; all = refl; each_right = are; behind_right = (let count = ap length one.1 in omega (arith, count), λ others. absurd (others refl)) })

-- none of them survived
pub tables_given_up : (rules : Rules) (story : Story) (walk : Walk) (why : Stop) (old mid new : Option (List (List Try))) → TellsMore old mid (AreTables rules [] story.earlier story.recoveries)
    → TellsOne rules (entries story) (walk_behind story.survivor walk) mid new → TellsMore old new (AreAllTables rules story (Some walk) why)
tables_given_up rules story walk why old mid new =
    tells_then old mid new (AreTables rules [] story.earlier story.recoveries) (λ more. (tries : List Try) × (more ≡ tries ∷ []) × IsTable rules (entries story) (walk_behind story.survivor walk) tries) (AreAllTables rules story (Some walk) why)
    (λ first later are one. record { each = first; behind = later; all = refl; each_right = are; behind_right = one })

-- a recovery more, behind these entries
are_tables_then : (rules : Rules) {all : List Entry} (before : List Entry) (chapters : List Chapter) (chapter : Chapter) (recoveries : List Recovery) (recovery : Recovery) (tables : List (List Try)) {tries : List Try} → AreTables rules before chapters recoveries tables
    → all ≡ (before ++ entries_of chapters) ++ chapter.entries → IsTable rules all recovery tries → AreTables rules before (chapters ++ chapter ∷ []) (recoveries ++ recovery ∷ []) (tables ++ tries ∷ [])
are_tables_then rules before [] chapter [] recovery [] {tries = tries} are same is = (subst (λ (es : List Entry). IsTable rules es recovery tries) (same ∙ ap (λ (es : List Entry). es ++ chapter.entries) (append-nil before)) is, tt)
are_tables_then rules before [] chapter [] recovery (first ∷ tables) are same is = absurd are
are_tables_then rules before [] chapter (next ∷ recoveries) recovery tables are same is = absurd are
are_tables_then rules before (one ∷ chapters) chapter [] recovery tables are same is = absurd are
are_tables_then rules before (one ∷ chapters) chapter (next ∷ recoveries) recovery [] are same is = absurd are
are_tables_then rules before (one ∷ chapters) chapter (next ∷ recoveries) recovery (first ∷ tables) are same is =
    (are.0, are_tables_then rules (before ++ one.entries) chapters chapter recoveries recovery tables are.1 (same ∙ ap (λ (es : List Entry). es ++ chapter.entries) (sym (append_assoc before one.entries (entries_of chapters)))) is)

pub tables_then : (rules : Rules) (story : Story) (recovery : Recovery) (old mid new : Option (List (List Try))) → TellsMore old mid (AreTables rules [] story.earlier story.recoveries) → TellsOne rules (entries story) recovery mid new
    → TellsMore old new (AreTables rules [] (story.earlier ++ record { survivor = story.survivor; entries = story.since } ∷ []) (story.recoveries ++ recovery ∷ []))
tables_then rules story recovery old mid new =
    let chapter : Chapter = record { survivor = story.survivor; entries = story.since } in
    tells_then old mid new (AreTables rules [] story.earlier story.recoveries) (λ more. (tries : List Try) × (more ≡ tries ∷ []) × IsTable rules (entries story) recovery tries) (AreTables rules [] (story.earlier ++ chapter ∷ []) (story.recoveries ++ recovery ∷ []))
    (λ first later are one. subst (λ (more : List (List Try)). AreTables rules [] (story.earlier ++ chapter ∷ []) (story.recoveries ++ recovery ∷ []) (first ++ more)) (sym one.1)
    (are_tables_then rules [] story.earlier chapter story.recoveries recovery first are refl one.2))

-- a fault at an end, behind which as many tables are told
last_fault : (rules : Rules) (story : Story) (walk : Option Walk) {why : Stop} (fault : Stop) (tables : List (List Try)) → why ≢ (stop.Breaks session_break.Memory) → AreLastTables rules story walk why tables → AreLastTables rules story walk fault tables
last_fault rules story None fault tables other are = (are.0, λ others. are.1 other)
last_fault rules story (Some walk) fault tables other are = are

pub tables_fault : (rules : Rules) (story : Story) (walk : Option Walk) {why : Stop} (fault : Stop) (old new : Option (List (List Try))) → why ≢ (stop.Breaks session_break.Memory) → TellsMore old new (AreAllTables rules story walk why)
    → TellsMore old new (AreAllTables rules story walk fault)
tables_fault rules story walk {why = why} fault old new other =
    tells_so old new (AreAllTables rules story walk why) (AreAllTables rules story walk fault)
    (λ more are. record { each = are.each; behind = are.behind; all = are.all; each_right = are.each_right; behind_right = last_fault rules story walk fault are.behind other are.behind_right })

-- by another word for how its checkpoints are kept
pub watched_kept : (P : Telling → Type 0) {rules : Rules} {image : Image} {began seen : Seen} {outcome : Outcome} {noted_before noted_now : Noted} {counted : ℕ} {tables_before tables : Option (List (List Try))} {first second : Keeping}
    → first ≡ second → (watched : HasWatched rules image first began seen outcome noted_before noted_now counted tables_before tables) × P watched.recovered.telling
    → (watched : HasWatched rules image second began seen outcome noted_before noted_now counted tables_before tables) × P watched.recovered.telling
watched_kept P {rules = rules} {image = image} {began = began} {seen = seen} {outcome = outcome} {noted_before = noted_before} {noted_now = noted_now} {counted = counted} {tables_before = tables_before} {tables = tables} same h =
    subst (λ (keeping : Keeping). (watched : HasWatched rules image keeping began seen outcome noted_before noted_now counted tables_before tables) × P watched.recovered.telling) same h

module _ {R : Type 0} where
  -- where a watch counts nothing, what is counted is the session's
  pub counted_alone : {rules : Rules} {before seen : Seen} {shown now : Shown} {tables_before tables : Option (List (List Try))} {old new : SessionState R} {answered : Answer} (first last : ℕ)
      → HasServedLink rules before seen shown now ((0 + last) - (0 + first)) tables_before tables old new answered → HasServedLink rules before seen shown now (last - first) tables_before tables old new answered
  counted_alone {rules = rules} {before = before} {seen = seen} {shown = shown} {now = now} {tables_before = tables_before} {tables = tables} {old = old} {new = new} {answered = answered} first last h =
      let same : (0 + last) - (0 + first) ≡ last - first = omega arith in
      subst (λ n. HasServedLink rules before seen shown now n tables_before tables old new answered) same h
