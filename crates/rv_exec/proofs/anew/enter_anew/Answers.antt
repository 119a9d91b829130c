use Rattle.rv_exec.proofs.Terms.{List, SFits, refl, rules, subst, sym, to_z-of_z, w32, length, ◌<◌, Entry}
use Rattle.rv_exec.proofs.EntryLoop.{entered, entry_there, got_in}
use Rattle.rv_exec.proofs.anew.enter_anew.Goals as goal

pub entry_of-e-requires : goal.entry_of-e-requires
entry_of-e-requires g c = subst (λ (xs : List Entry). c.args.number < length xs) (sym c.requires.entries) (entry_there c.args.start c.args.count c.args.number c.args.space.now c.sound.ensures c.requires.place)

pub returns-in-Lb-clause-done : goal.returns-in-Lb-clause-done
returns-in-Lb-clause-done g c =
    entered (g.R.AccessRule.rule c.args.rule.now) c.args.book.now c.args.start c.args.count c.args.number c.entry_of-e.result.now c.args.x.now c.load_anew.new.x c.args.space.now c.args.space.now c.load_anew.result c.sound.ensures c.requires.place (got_in c.args.entries.now c.args.space.now.code.entries c.args.number c.entry_of-e.result.now c.requires.entries c.entry_of-e.ensures) c.requires.zero refl
    (λ linked. c.load_anew.ensures.among c.args.count) (c.load_anew.ensures.done c.args.start c.args.number)

pub returns-in-Lh-clause-done : goal.returns-in-Lh-clause-done
returns-in-Lh-clause-done g c =
    entered (g.R.AccessRule.rule c.args.rule.now) c.args.book.now c.args.start c.args.count c.args.number c.entry_of-e.result.now c.args.x.now c.load_anew-in-Lh.new.x c.args.space.now c.args.space.now c.load_anew-in-Lh.result c.sound.ensures c.requires.place (got_in c.args.entries.now c.args.space.now.code.entries c.args.number c.entry_of-e.result.now c.requires.entries c.entry_of-e.ensures) c.requires.zero refl
    (λ linked. c.load_anew-in-Lh.ensures.among c.args.count) (c.load_anew-in-Lh.ensures.done c.args.start c.args.number)

pub returns-in-Lw-clause-done : goal.returns-in-Lw-clause-done
returns-in-Lw-clause-done g c =
    entered (g.R.AccessRule.rule c.args.rule.now) c.args.book.now c.args.start c.args.count c.args.number c.entry_of-e.result.now c.args.x.now c.load_anew-in-Lw.new.x c.args.space.now c.args.space.now c.load_anew-in-Lw.result c.sound.ensures c.requires.place (got_in c.args.entries.now c.args.space.now.code.entries c.args.number c.entry_of-e.result.now c.requires.entries c.entry_of-e.ensures) c.requires.zero refl
    (λ linked. c.load_anew-in-Lw.ensures.among c.args.count) (c.load_anew-in-Lw.ensures.done c.args.start c.args.number)

pub returns-in-Lbu-clause-done : goal.returns-in-Lbu-clause-done
returns-in-Lbu-clause-done g c =
    entered (g.R.AccessRule.rule c.args.rule.now) c.args.book.now c.args.start c.args.count c.args.number c.entry_of-e.result.now c.args.x.now c.load_anew-in-Lbu.new.x c.args.space.now c.args.space.now c.load_anew-in-Lbu.result c.sound.ensures c.requires.place (got_in c.args.entries.now c.args.space.now.code.entries c.args.number c.entry_of-e.result.now c.requires.entries c.entry_of-e.ensures) c.requires.zero refl
    (λ linked. c.load_anew-in-Lbu.ensures.among c.args.count) (c.load_anew-in-Lbu.ensures.done c.args.start c.args.number)

pub returns-in-Lhu-clause-done : goal.returns-in-Lhu-clause-done
returns-in-Lhu-clause-done g c =
    entered (g.R.AccessRule.rule c.args.rule.now) c.args.book.now c.args.start c.args.count c.args.number c.entry_of-e.result.now c.args.x.now c.load_anew-in-Lhu.new.x c.args.space.now c.args.space.now c.load_anew-in-Lhu.result c.sound.ensures c.requires.place (got_in c.args.entries.now c.args.space.now.code.entries c.args.number c.entry_of-e.result.now c.requires.entries c.entry_of-e.ensures) c.requires.zero refl
    (λ linked. c.load_anew-in-Lhu.ensures.among c.args.count) (c.load_anew-in-Lhu.ensures.done c.args.start c.args.number)

pub returns-in-Sb-clause-done : goal.returns-in-Sb-clause-done
returns-in-Sb-clause-done g c =
    let fits : SFits w32 c.entry_of-e.result.now.imm = search rules in
    let e = to_z-of_z fits in
    entered (g.R.AccessRule.rule c.args.rule.now) c.args.book.now c.args.start c.args.count c.args.number c.entry_of-e.result.now c.args.x.now c.args.x.now c.args.space.now c.store_anew.new.space c.store_anew.result c.sound.ensures c.requires.place (got_in c.args.entries.now c.args.space.now.code.entries c.args.number c.entry_of-e.result.now c.requires.entries c.entry_of-e.ensures) c.requires.zero c.store_anew.ensures.stays.code
    (λ linked. c.store_anew.ensures.among c.args.count) (c.store_anew.ensures.done c.args.start c.args.number c.entry_of-e.result.now record { kind = c.in-Sb.is; first = refl; second = refl; offset = sym e })

pub returns-in-Sh-clause-done : goal.returns-in-Sh-clause-done
returns-in-Sh-clause-done g c =
    let fits : SFits w32 c.entry_of-e.result.now.imm = search rules in
    let e = to_z-of_z fits in
    entered (g.R.AccessRule.rule c.args.rule.now) c.args.book.now c.args.start c.args.count c.args.number c.entry_of-e.result.now c.args.x.now c.args.x.now c.args.space.now c.store_anew-in-Sh.new.space c.store_anew-in-Sh.result c.sound.ensures c.requires.place (got_in c.args.entries.now c.args.space.now.code.entries c.args.number c.entry_of-e.result.now c.requires.entries c.entry_of-e.ensures) c.requires.zero c.store_anew-in-Sh.ensures.stays.code
    (λ linked. c.store_anew-in-Sh.ensures.among c.args.count) (c.store_anew-in-Sh.ensures.done c.args.start c.args.number c.entry_of-e.result.now record { kind = c.in-Sh.is; first = refl; second = refl; offset = sym e })

pub returns-in-Sw-clause-done : goal.returns-in-Sw-clause-done
returns-in-Sw-clause-done g c =
    let fits : SFits w32 c.entry_of-e.result.now.imm = search rules in
    let e = to_z-of_z fits in
    entered (g.R.AccessRule.rule c.args.rule.now) c.args.book.now c.args.start c.args.count c.args.number c.entry_of-e.result.now c.args.x.now c.args.x.now c.args.space.now c.store_anew-in-Sw.new.space c.store_anew-in-Sw.result c.sound.ensures c.requires.place (got_in c.args.entries.now c.args.space.now.code.entries c.args.number c.entry_of-e.result.now c.requires.entries c.entry_of-e.ensures) c.requires.zero c.store_anew-in-Sw.ensures.stays.code
    (λ linked. c.store_anew-in-Sw.ensures.among c.args.count) (c.store_anew-in-Sw.ensures.done c.args.start c.args.number c.entry_of-e.result.now record { kind = c.in-Sw.is; first = refl; second = refl; offset = sym e })

pub returns-in_default-clause-done : goal.returns-in_default-clause-done
returns-in_default-clause-done g c = record { zero = c.requires.zero; place = c.requires.place; word = tt; done = (refl, refl) }
