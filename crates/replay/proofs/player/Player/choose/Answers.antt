use Rattle.run_history.specs.declared.answer.Answer.TheVariants.{Memory, Mismatch}
use Rattle.replay.proofs.Terms.{List, None, Option, Some, [], ap, arith, refl, subst, sym, true, vec_len, ℕ, ◌++◌, ◌<◌, ◌∙◌, ◌∷◌, ◌≡◌, Err, slice_get, Choice, Answer, Marks, CpuState, chosen_standing, is_usable, Live, Standing, Line, IsUnusable, choice_by, DiffersBy, HasFound, IsBetween, IsWholeEnd, UsesBy, stage_of}
use Rattle.replay.specs.declared.difference.Difference.TheVariants as difference
use Rattle.replay.proofs.DifferLemmas.{unusable_differs}
use Rattle.replay.proofs.ChooseLemmas.{dropped, no_choice, no_room, with_choice, unusable, usable_allowed}
use Rattle.replay.proofs.player.Player.choose.Goals as goal

pub returns-in_default-clause-turns : goal.returns-in_default-clause-turns
returns-in_default-clause-turns g c image began seen still wanting =
    let m = c.args.self.now.cpu.slots.live.guest.machine in
    let none : None ≡ slice_get c.args.recorded.now.lines m.allocations = c.in_default.ensures ∙ ap (λ (marks : Marks). slice_get c.args.recorded.now.lines marks.choices) c.marks-number.ensures in
    subst (λ (end : Answer). IsWholeEnd image c.args.recorded.now began seen (stage_of c.args.self.now) end) (sym c.mismatch.ensures)
    (no_choice still wanting (subst (λ (found : Option Line). IsUnusable m c.args.ask found) none tt))

pub returns-in-Err-clause-turns : goal.returns-in-Err-clause-turns
returns-in-Err-clause-turns g c image began seen still wanting =
    subst (λ (choices : List Choice). IsWholeEnd image c.args.recorded.now began seen (record (stage_of c.args.self.now) { choices = choices }) Memory) (sym c.in-Err.ensures.items)
    (no_room still wanting)

pub returns-then-not-use_choice-clause-turns : goal.returns-then-not-use_choice-clause-turns
returns-then-not-use_choice-clause-turns g c image began seen still wanting =
    let m = c.args.self.now.cpu.slots.live.guest.machine in
    let found : Some c.in-Some.line ≡ slice_get c.args.recorded.now.lines m.allocations = c.in-Some.ensures ∙ ap (λ (marks : Marks). slice_get c.args.recorded.now.lines marks.choices) c.marks-number.ensures in
    let same : c.use_choice.new.self.slots.live ≡ c.args.self.now.cpu.slots.live = ap (λ (cpu : CpuState _). cpu.slots.live) c.if-not-use_choice.ensures.live in
    let some : 0 < vec_len c.push.new.self = omega (arith, c.in_default-push.ensures.len) in
    let kept : c.pop.new.self.items ≡ c.args.self.now.choices.items =
    dropped c.args.self.now.choices.items c.pop.new.self.items c.choice_by-choice.result c.in_default-push.ensures.items c.pop.ensures.items (c.pop.ensures.value c.choice_by-choice.result some) in
    let end = subst (λ (line : Option Line). IsUnusable m c.args.ask line) found
    (unusable c.args.self.now.cpu.slots.live c.args.ask c.in-Some.line c.choice_by-choice.result c.sound.ensures.laid_out c.requires.bare c.choice_by-choice.ensures (sym c.if-not-use_choice.ensures.usable)) in
    subst (λ (end : Answer). IsWholeEnd image c.args.recorded.now began seen (record (stage_of c.args.self.now) { live = c.use_choice.new.self.slots.live; choices = c.pop.new.self.items }) end) (sym c.mismatch-then-not-use_choice.ensures)
    (subst (λ (s : Standing). IsWholeEnd image c.args.recorded.now began seen (record (stage_of c.args.self.now) { live = s; choices = c.pop.new.self.items }) (Mismatch s.steps)) (sym same)
    (subst (λ (choices : List Choice). IsWholeEnd image c.args.recorded.now began seen (record (stage_of c.args.self.now) { choices = choices }) (Mismatch c.args.self.now.cpu.slots.live.steps)) (sym kept)
    (no_choice still wanting end)))

pub returns-clause-turns : goal.returns-clause-turns
returns-clause-turns g c image began seen still wanting =
    let found : slice_get c.args.recorded.now.lines c.args.self.now.cpu.slots.live.guest.machine.allocations ≡ Some c.in-Some.line =
    sym (c.in-Some.ensures ∙ ap (λ (marks : Marks). slice_get c.args.recorded.now.lines marks.choices) c.marks-number.ensures) in
    let usable = sym c.if-not-use_choice.ensures.usable in
    let live : c.use_choice.new.self.slots.live ≡ chosen_standing c.choice_by-choice.result c.args.self.now.cpu.slots.live = ap (λ (live : Live). live.standing) c.if-not-use_choice.ensures.live in
    subst (λ (choices : List Choice). IsBetween image c.args.recorded.now began seen (record (stage_of c.args.self.now) { live = c.use_choice.new.self.slots.live; choices = choices })) (sym c.in_default-push.ensures.items)
    (with_choice wanting c.sound.ensures.laid_out found c.choice_by-choice.ensures usable live c.use_choice.ensures.bare)

pub returns-in_default-clause-differs : goal.returns-in_default-clause-differs
returns-in_default-clause-differs g c =
    let live = c.args.self.now.cpu.slots.live in
    let number : c.marks-number.result.choices ≡ live.guest.machine.allocations = ap (λ (marks : Marks). marks.choices) c.marks-number.ensures in
    let none : slice_get c.args.recorded.now.lines live.guest.machine.allocations ≡ None = sym (c.in_default.ensures ∙ ap (λ (n : ℕ). slice_get c.args.recorded.now.lines n) number) in
    subst (λ (end : Answer). DiffersBy (HasFound c.args.recorded.now live) c.args.self.now.difference (Some (difference.NoLine c.marks-number.result.choices c.args.ask)) (Err end)) (sym c.mismatch.ensures)
    ((c.requires.shorter, c.requires.lives, c.requires.wants), number, none)

pub returns-then-not-use_choice-clause-differs : goal.returns-then-not-use_choice-clause-differs
returns-then-not-use_choice-clause-differs g c =
    let live = c.args.self.now.cpu.slots.live in
    let number : c.marks-number.result.choices ≡ live.guest.machine.allocations = ap (λ (marks : Marks). marks.choices) c.marks-number.ensures in
    let found : slice_get c.args.recorded.now.lines live.guest.machine.allocations ≡ Some c.in-Some.line = sym (c.in-Some.ensures ∙ ap (λ (n : ℕ). slice_get c.args.recorded.now.lines n) number) in
    let same : c.use_choice.new.self.slots.live ≡ live = ap (λ (cpu : CpuState _). cpu.slots.live) c.if-not-use_choice.ensures.live in
    unusable_differs c.args.recorded.now c.args.self.now.difference live c.use_choice.new.self.slots.live c.mismatch-then-not-use_choice.result c.marks-number.result.choices c.args.ask c.choice_by-choice.result c.in-Some.line
    c.unusable_apart.result same c.unusable_apart.ensures number c.choice_by-choice.ensures c.mismatch-then-not-use_choice.ensures
    (c.requires.shorter, c.requires.lives, c.requires.wants) found
    (unusable live c.args.ask c.in-Some.line c.choice_by-choice.result c.sound.ensures.laid_out c.requires.bare c.choice_by-choice.ensures (sym c.if-not-use_choice.ensures.usable))

pub returns-in_default-clause-uses : goal.returns-in_default-clause-uses
returns-in_default-clause-uses g c =
    let m = c.args.self.now.cpu.slots.live.guest.machine in
    let none : None ≡ slice_get c.args.recorded.now.lines m.allocations = c.in_default.ensures ∙ ap (λ (marks : Marks). slice_get c.args.recorded.now.lines marks.choices) c.marks-number.ensures in
    subst (λ (end : Answer). UsesBy c.args.recorded.now c.args.ask (stage_of c.args.self.now) (stage_of c.args.self.now) (Err end)) (sym c.mismatch.ensures)
    (refl, refl, subst (λ (found : Option Line). IsUnusable m c.args.ask found) none tt)

pub returns-in-Err-clause-uses : goal.returns-in-Err-clause-uses
returns-in-Err-clause-uses g c = ap (λ (choices : List Choice). record (stage_of c.args.self.now) { choices = choices }) c.in-Err.ensures.items

pub returns-then-not-use_choice-clause-uses : goal.returns-then-not-use_choice-clause-uses
returns-then-not-use_choice-clause-uses g c =
    let m = c.args.self.now.cpu.slots.live.guest.machine in
    let found : Some c.in-Some.line ≡ slice_get c.args.recorded.now.lines m.allocations = c.in-Some.ensures ∙ ap (λ (marks : Marks). slice_get c.args.recorded.now.lines marks.choices) c.marks-number.ensures in
    let same : c.use_choice.new.self.slots.live ≡ c.args.self.now.cpu.slots.live = ap (λ (cpu : CpuState _). cpu.slots.live) c.if-not-use_choice.ensures.live in
    let some : 0 < vec_len c.push.new.self = omega (arith, c.in_default-push.ensures.len) in
    let kept : c.pop.new.self.items ≡ c.args.self.now.choices.items =
    dropped c.args.self.now.choices.items c.pop.new.self.items c.choice_by-choice.result c.in_default-push.ensures.items c.pop.ensures.items (c.pop.ensures.value c.choice_by-choice.result some) in
    let end = subst (λ (line : Option Line). IsUnusable m c.args.ask line) found
    (unusable c.args.self.now.cpu.slots.live c.args.ask c.in-Some.line c.choice_by-choice.result c.sound.ensures.laid_out c.requires.bare c.choice_by-choice.ensures (sym c.if-not-use_choice.ensures.usable)) in
    subst (λ (end : Answer). UsesBy c.args.recorded.now c.args.ask (stage_of c.args.self.now) (record (stage_of c.args.self.now) { live = c.use_choice.new.self.slots.live; choices = c.pop.new.self.items }) (Err end)) (sym c.mismatch-then-not-use_choice.ensures)
    (ap (λ (s : Standing). s.steps) same, λ i. record (stage_of c.args.self.now) { live = same i; choices = kept i }, end)

pub returns-clause-uses : goal.returns-clause-uses
returns-clause-uses g c =
    let found : slice_get c.args.recorded.now.lines c.args.self.now.cpu.slots.live.guest.machine.allocations ≡ Some c.in-Some.line =
    sym (c.in-Some.ensures ∙ ap (λ (marks : Marks). slice_get c.args.recorded.now.lines marks.choices) c.marks-number.ensures) in
    let choice = c.choice_by-choice.ensures in
    let usable = sym c.if-not-use_choice.ensures.usable in
    let live : c.use_choice.new.self.slots.live ≡ chosen_standing c.choice_by-choice.result c.args.self.now.cpu.slots.live = ap (λ (live : Live). live.standing) c.if-not-use_choice.ensures.live in
    record {
      line = c.in-Some.line;
      here = found;
      allowed = usable_allowed c.args.self.now.cpu.slots.live c.args.ask (choice_by c.args.ask c.in-Some.line) c.sound.ensures.laid_out
          (subst (λ (one : Choice). is_usable c.args.self.now.cpu.slots.live c.args.ask one ≡ true) choice usable);
      left = λ i. record (stage_of c.args.self.now) { live = (live ∙ ap (λ (one : Choice). chosen_standing one c.args.self.now.cpu.slots.live) choice) i; choices = (c.in_default-push.ensures.items ∙ ap (λ (one : Choice). c.args.self.now.choices.items ++ one ∷ []) choice) i };
      bare = c.use_choice.ensures.bare;
    }
