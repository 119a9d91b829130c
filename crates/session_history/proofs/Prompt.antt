-- A run that is prompt: it made no move where it owed something. It stays so where it goes on so, and where more items come.
use Rattle.session_history.proofs.Terms.{List, Some, [], ap, append-nil, arith, inl, inr, length, length-append, subst, sym, ℕ, ◌++◌, ◌+◌, ◌-◌, ◌<◌, ◌∙◌, ◌∷◌, ◌≡◌, ◌≤◌, ◌⊎◌, cases_lt, option_and_then_some, same_Some, Item, Send, repeated_add, repeated_from, served_more, Limits, Override, Path, Served, planned_next, serve, Bounds, OwesNothing, Place, moment_at, IsPrompt, OnTheWay, Rules, Survivor, from_there, gone_on, moves}
use Rattle.session_history.proofs.Asked.{served_grows}
use Rattle.session_history.proofs.Paths.{served_same, served_on, served_with}

-- no run makes fewer moves
pub moves_later : (limits : Limits) (items : List Item) (plan : List Override) (first second : Path) → Served limits items plan first second → moves first ≤ moves second
moves_later limits items plan first second served =
    let grows = served_grows limits items plan first second served in
    let count : length second.state.sends ≡ length first.state.sends + length grows.more = ap length grows.sends ∙ length-append first.state.sends grows.more in
    omega (arith, count, grows.taken)

-- a run that made no more moves took no item, and sent nothing
pub record MadeNone (first second : Path) : Type 0 where
  pub taken : first.state.machine.taken ≡ second.state.machine.taken
  pub sends : first.state.sends ≡ second.state.sends

none_behind : (xs more : List Send) → length more ≡ 0 → xs ≡ xs ++ more
none_behind xs [] none = sym (append-nil xs)
none_behind xs (send ∷ more) none = absurd (omega (arith, none))

pub made_none : (limits : Limits) (items : List Item) (plan : List Override) (first second : Path) → Served limits items plan first second → moves second ≤ moves first → MadeNone first second
made_none limits items plan first second served few =
    let grows = served_grows limits items plan first second served in
    let count : length second.state.sends ≡ length first.state.sends + length grows.more = ap length grows.sends ∙ length-append first.state.sends grows.more in
    record { taken = omega (arith, count, grows.taken, few); sends = none_behind first.state.sends grows.more (omega (arith, count, grows.taken, few)) ∙ sym grows.sends }

-- what it owes is the same
pub owes_back : (bounds : Bounds) (hold : ℕ) (place : Place) (first second : Path) → MadeNone first second → OwesNothing bounds hold (moment_at place second.state.machine.taken) second.state.sends
    → OwesNothing bounds hold (moment_at place first.state.machine.taken) first.state.sends
owes_back bounds hold place first second none owes =
    subst (λ sends. OwesNothing bounds hold (moment_at place first.state.machine.taken) sends) (sym none.sends)
    (subst (λ taken. OwesNothing bounds hold (moment_at place taken) second.state.sends) (sym none.taken) owes)

-- of two runs from one place one goes on to the other
pub served_meet : (limits : Limits) (items : List Item) (plan : List Override) (first second third : Path) → Served limits items plan first second → Served limits items plan first third
    → Served limits items plan second third ⊎ Served limits items plan third second
served_meet limits items plan first second third one other =
    elim (cases_lt other.more one.more) [
      | inl fewer ↦ inr (rest first third second other.more one.more (omega (arith, fewer)) other.ran one.ran)
      | inr enough ↦ inl (rest first second third one.more other.more enough one.ran other.ran)
    ]
  where
    rest : (a b c : Path) (n m : ℕ) → n ≤ m → serve limits items plan a n ≡ Some b → serve limits items plan a m ≡ Some c → Served limits items plan b c
    rest a b c n m low ran longer =
        let same : m ≡ n + (m - n) = omega (arith, low) in
        record { more = m - n; ran = sym (repeated_from (planned_next limits items plan) a b n (m - n) ran) ∙ subst (λ k. serve limits items plan a k ≡ Some c) same longer }

-- a survivor that stands where it began
pub prompt_none : (rules : Rules) (items : List Item) (survivor : Survivor) (place : Place) → IsPrompt rules items (from_there survivor survivor.now) place
prompt_none rules items survivor place = record {
  ran = served_same rules.limits items survivor.plan survivor.now;
  owed_nothing = λ way before. let low = moves_later rules.limits items survivor.plan survivor.now way.path way.from in absurd (omega (arith, low, before));
}

-- one more move from where nothing is owed
pub prompt_one : (rules : Rules) (items : List Item) (survivor : Survivor) (to : Path) (place : Place) → Served rules.limits items survivor.plan survivor.now to → moves to ≤ moves survivor.now + 1
    → OwesNothing rules.bounds rules.hold (moment_at place survivor.now.state.machine.taken) survivor.now.state.sends → IsPrompt rules items (gone_on (from_there survivor survivor.now) to) place
prompt_one rules items survivor to place on few owes = record {
  ran = on;
  owed_nothing = λ way before.
      let none = made_none rules.limits items survivor.plan survivor.now way.path way.from (omega (arith, before, few)) in
      owes_back rules.bounds rules.hold place way.path survivor.now (record { taken = sym none.taken; sends = sym none.sends }) owes;
}

-- it goes on so
pub prompt_on : (rules : Rules) (items : List Item) (survivor : Survivor) (to : Path) (place : Place) → IsPrompt rules items survivor place → IsPrompt rules items (gone_on (from_there survivor survivor.now) to) place
    → IsPrompt rules items (gone_on survivor to) place
prompt_on rules items survivor to place one other = record {
  ran = served_on rules.limits items survivor.plan survivor.begun survivor.now to one.ran other.ran;
  owed_nothing = λ way before.
      elim (served_meet rules.limits items survivor.plan survivor.begun survivor.now way.path one.ran way.from) [
        | inl on ↦ other.owed_nothing (record { path = way.path; from = on; on = way.on }) before
        | inr back ↦
            elim (cases_lt (moves way.path) (moves survivor.now)) [
              | inl less ↦ one.owed_nothing (record { path = way.path; from = way.from; on = back }) less
              | inr enough ↦
                  owes_back rules.bounds rules.hold place way.path survivor.now (made_none rules.limits items survivor.plan way.path survivor.now back enough)
                  (other.owed_nothing (record { path = survivor.now; from = served_same rules.limits items survivor.plan survivor.now; on = other.ran }) (omega (arith, enough, before)))
            ]
      ];
}

-- a run of so many instructions stood somewhere after each number of them
pub record Splits (limits : Limits) (items : List Item) (plan : List Override) (first second : Path) (n m : ℕ) : Type 0 where
  pub mid : Path
  pub from : serve limits items plan first n ≡ Some mid
  pub on : serve limits items plan mid m ≡ Some second

serve_splits : (limits : Limits) (items : List Item) (plan : List Override) (first second : Path) (n m : ℕ) → serve limits items plan first (n + m) ≡ Some second → Splits limits items plan first second n m
serve_splits limits items plan first second n m ran =
    option_and_then_some (λ path. serve limits items plan path m) (serve limits items plan first n) second (sym (repeated_add (planned_next limits items plan) first n m) ∙ ran)
    (λ mid from on. record { mid = mid; from = from; on = on })

-- where more items came, a run that went on without them stood before its last move where it did
pub record WentBefore (rules : Rules) (items : List Item) (survivor : Survivor) (path : Path) : Type 0 where
  pub way : OnTheWay rules items survivor
  pub same : way.path ≡ path

went_before : (rules : Rules) (items more : List Item) (survivor : Survivor) (way : OnTheWay rules (items ++ more) survivor) → Served rules.limits items survivor.plan survivor.begun survivor.now → moves way.path < moves survivor.now
    → WentBefore rules items survivor way.path
went_before rules items more survivor way ran before =
    elim (cases_lt ran.more way.from.more) [
      | inl longer ↦
          let count : ran.more + (way.from.more - ran.more) ≡ way.from.more = omega (arith, longer) in
          let whole = served_more rules.limits items more survivor.plan survivor.begun survivor.now ran.more ran.ran in
          let on : Served rules.limits (items ++ more) survivor.plan survivor.now way.path = record {
            more = way.from.more - ran.more;
            ran =
                sym (repeated_from (planned_next rules.limits (items ++ more) survivor.plan) survivor.begun survivor.now ran.more (way.from.more - ran.more) whole)
                ∙ subst (λ k. serve rules.limits (items ++ more) survivor.plan survivor.begun k ≡ Some way.path) (sym count) way.from.ran;
          } in
          let low = moves_later rules.limits (items ++ more) survivor.plan survivor.now way.path on in
          absurd (omega (arith, low, before))
      | inr enough ↦
          let count : ran.more ≡ way.from.more + (ran.more - way.from.more) = omega (arith, enough) in
          let splits =
          serve_splits rules.limits items survivor.plan survivor.begun survivor.now way.from.more (ran.more - way.from.more)
          (subst (λ k. serve rules.limits items survivor.plan survivor.begun k ≡ Some survivor.now) count ran.ran) in
          record {
            way = record { path = splits.mid; from = record { more = way.from.more; ran = splits.from }; on = record { more = ran.more - way.from.more; ran = splits.on } };
            same = same_Some splits.mid way.path (sym (served_more rules.limits items more survivor.plan survivor.begun splits.mid way.from.more splits.from) ∙ way.from.ran);
          }
    ]

-- and so where more items come
pub prompt_with : (rules : Rules) (items more : List Item) (survivor : Survivor) (place : Place) → IsPrompt rules items survivor place → IsPrompt rules (items ++ more) survivor place
prompt_with rules items more survivor place one = record {
  ran = served_with rules.limits items more survivor.plan survivor.begun survivor.now one.ran;
  owed_nothing = λ way before.
      let went = went_before rules items more survivor way one.ran before in
      subst (λ (path : Path). OwesNothing rules.bounds rules.hold (moment_at place path.state.machine.taken) path.state.sends) went.same
      (one.owed_nothing went.way (subst (λ (path : Path). moves path < moves survivor.now) (sym went.same) before));
}
