use Rattle.rv_exec.proofs.Terms.{List, SFits, refl, rules, subst, sym, to_z-of_z, w32, ◌∙◌, length, ◌<◌, Entry}
use Rattle.rv_exec.proofs.EntryLoop.{entered, entry_there, got_in, start_whole}
use Rattle.rv_exec.proofs.entries.enter_as.Goals as goal

pub entry_of-e-requires : goal.entry_of-e-requires
entry_of-e-requires g c = subst (λ (xs : List Entry). c.args.number < length xs) (sym c.requires.entries) (entry_there c.args.start c.args.count c.args.number c.args.space.now c.sound.ensures c.requires.place)

pub returns-in-Set-clause-done : goal.returns-in-Set-clause-done
returns-in-Set-clause-done g c =
    entered (g.R.AccessRule.rule c.args.rule.now) c.args.book.now c.args.start c.args.count c.args.number c.entry_of-e.result.now c.args.x.now c.enter_set.new.x c.args.space.now c.args.space.now c.enter_set.result c.sound.ensures c.requires.place (got_in c.args.entries.now c.args.space.now.code.entries c.args.number c.entry_of-e.result.now c.requires.entries c.entry_of-e.ensures) c.requires.zero refl
    (λ linked. c.enter_set.ensures.among c.args.count) (c.enter_set.ensures.done (g.R.AccessRule.rule c.args.rule.now) c.args.book.now c.args.space.now c.args.start c.args.number)

pub returns-in-Jal-clause-done : goal.returns-in-Jal-clause-done
returns-in-Jal-clause-done g c =
    entered (g.R.AccessRule.rule c.args.rule.now) c.args.book.now c.args.start c.args.count c.args.number c.entry_of-e.result.now c.args.x.now c.enter_jal.new.x c.args.space.now c.args.space.now c.enter_jal.result c.sound.ensures c.requires.place (got_in c.args.entries.now c.args.space.now.code.entries c.args.number c.entry_of-e.result.now c.requires.entries c.entry_of-e.ensures) c.requires.zero refl
    (c.enter_jal.ensures.among c.args.count) (c.enter_jal.ensures.done (g.R.AccessRule.rule c.args.rule.now) c.args.book.now c.args.space.now)

pub returns-in-Jalr-clause-done : goal.returns-in-Jalr-clause-done
returns-in-Jalr-clause-done g c =
    entered (g.R.AccessRule.rule c.args.rule.now) c.args.book.now c.args.start c.args.count c.args.number c.entry_of-e.result.now c.args.x.now c.enter_jalr.new.x c.args.space.now c.args.space.now c.enter_jalr.result c.sound.ensures c.requires.place (got_in c.args.entries.now c.args.space.now.code.entries c.args.number c.entry_of-e.result.now c.requires.entries c.entry_of-e.ensures) c.requires.zero refl
    (λ linked. c.enter_jalr.ensures.among) (c.enter_jalr.ensures.done (g.R.AccessRule.rule c.args.rule.now) c.args.book.now c.args.space.now)

pub returns-in-Beq-clause-done : goal.returns-in-Beq-clause-done
returns-in-Beq-clause-done g c =
    entered (g.R.AccessRule.rule c.args.rule.now) c.args.book.now c.args.start c.args.count c.args.number c.entry_of-e.result.now c.args.x.now c.args.x.now c.args.space.now c.args.space.now c.enter_branch.result c.sound.ensures c.requires.place (got_in c.args.entries.now c.args.space.now.code.entries c.args.number c.entry_of-e.result.now c.requires.entries c.entry_of-e.ensures) c.requires.zero refl
    (c.enter_branch.ensures.among c.args.count) (c.enter_branch.ensures.done (g.R.AccessRule.rule c.args.rule.now) c.args.book.now c.args.space.now c.args.start c.args.number (start_whole c.args.start c.args.count c.args.number c.args.space.now c.sound.ensures c.requires.place))

pub returns-in-Bne-clause-done : goal.returns-in-Bne-clause-done
returns-in-Bne-clause-done g c =
    entered (g.R.AccessRule.rule c.args.rule.now) c.args.book.now c.args.start c.args.count c.args.number c.entry_of-e.result.now c.args.x.now c.args.x.now c.args.space.now c.args.space.now c.enter_branch-in-Bne.result c.sound.ensures c.requires.place (got_in c.args.entries.now c.args.space.now.code.entries c.args.number c.entry_of-e.result.now c.requires.entries c.entry_of-e.ensures) c.requires.zero refl
    (c.enter_branch-in-Bne.ensures.among c.args.count) (c.enter_branch-in-Bne.ensures.done (g.R.AccessRule.rule c.args.rule.now) c.args.book.now c.args.space.now c.args.start c.args.number (start_whole c.args.start c.args.count c.args.number c.args.space.now c.sound.ensures c.requires.place))

pub returns-in-Blt-clause-done : goal.returns-in-Blt-clause-done
returns-in-Blt-clause-done g c =
    entered (g.R.AccessRule.rule c.args.rule.now) c.args.book.now c.args.start c.args.count c.args.number c.entry_of-e.result.now c.args.x.now c.args.x.now c.args.space.now c.args.space.now c.enter_branch-in-Blt.result c.sound.ensures c.requires.place (got_in c.args.entries.now c.args.space.now.code.entries c.args.number c.entry_of-e.result.now c.requires.entries c.entry_of-e.ensures) c.requires.zero refl
    (c.enter_branch-in-Blt.ensures.among c.args.count) (c.enter_branch-in-Blt.ensures.done (g.R.AccessRule.rule c.args.rule.now) c.args.book.now c.args.space.now c.args.start c.args.number (start_whole c.args.start c.args.count c.args.number c.args.space.now c.sound.ensures c.requires.place))

pub returns-in-Bge-clause-done : goal.returns-in-Bge-clause-done
returns-in-Bge-clause-done g c =
    entered (g.R.AccessRule.rule c.args.rule.now) c.args.book.now c.args.start c.args.count c.args.number c.entry_of-e.result.now c.args.x.now c.args.x.now c.args.space.now c.args.space.now c.enter_branch-in-Bge.result c.sound.ensures c.requires.place (got_in c.args.entries.now c.args.space.now.code.entries c.args.number c.entry_of-e.result.now c.requires.entries c.entry_of-e.ensures) c.requires.zero refl
    (c.enter_branch-in-Bge.ensures.among c.args.count) (c.enter_branch-in-Bge.ensures.done (g.R.AccessRule.rule c.args.rule.now) c.args.book.now c.args.space.now c.args.start c.args.number (start_whole c.args.start c.args.count c.args.number c.args.space.now c.sound.ensures c.requires.place))

pub returns-in-Bltu-clause-done : goal.returns-in-Bltu-clause-done
returns-in-Bltu-clause-done g c =
    entered (g.R.AccessRule.rule c.args.rule.now) c.args.book.now c.args.start c.args.count c.args.number c.entry_of-e.result.now c.args.x.now c.args.x.now c.args.space.now c.args.space.now c.enter_branch-in-Bltu.result c.sound.ensures c.requires.place (got_in c.args.entries.now c.args.space.now.code.entries c.args.number c.entry_of-e.result.now c.requires.entries c.entry_of-e.ensures) c.requires.zero refl
    (c.enter_branch-in-Bltu.ensures.among c.args.count) (c.enter_branch-in-Bltu.ensures.done (g.R.AccessRule.rule c.args.rule.now) c.args.book.now c.args.space.now c.args.start c.args.number (start_whole c.args.start c.args.count c.args.number c.args.space.now c.sound.ensures c.requires.place))

pub returns-in-Bgeu-clause-done : goal.returns-in-Bgeu-clause-done
returns-in-Bgeu-clause-done g c =
    entered (g.R.AccessRule.rule c.args.rule.now) c.args.book.now c.args.start c.args.count c.args.number c.entry_of-e.result.now c.args.x.now c.args.x.now c.args.space.now c.args.space.now c.enter_branch-in-Bgeu.result c.sound.ensures c.requires.place (got_in c.args.entries.now c.args.space.now.code.entries c.args.number c.entry_of-e.result.now c.requires.entries c.entry_of-e.ensures) c.requires.zero refl
    (c.enter_branch-in-Bgeu.ensures.among c.args.count) (c.enter_branch-in-Bgeu.ensures.done (g.R.AccessRule.rule c.args.rule.now) c.args.book.now c.args.space.now c.args.start c.args.number (start_whole c.args.start c.args.count c.args.number c.args.space.now c.sound.ensures c.requires.place))

pub returns-in-Lb-clause-done : goal.returns-in-Lb-clause-done
returns-in-Lb-clause-done g c =
    entered (g.R.AccessRule.rule c.args.rule.now) c.args.book.now c.args.start c.args.count c.args.number c.entry_of-e.result.now c.args.x.now c.enter_load.new.x c.args.space.now c.args.space.now c.enter_load.result c.sound.ensures c.requires.place (got_in c.args.entries.now c.args.space.now.code.entries c.args.number c.entry_of-e.result.now c.requires.entries c.entry_of-e.ensures) c.requires.zero refl
    (λ linked. c.enter_load.ensures.among c.args.count) (c.enter_load.ensures.done c.args.start c.args.number)

pub returns-in-Lh-clause-done : goal.returns-in-Lh-clause-done
returns-in-Lh-clause-done g c =
    entered (g.R.AccessRule.rule c.args.rule.now) c.args.book.now c.args.start c.args.count c.args.number c.entry_of-e.result.now c.args.x.now c.enter_load-in-Lh.new.x c.args.space.now c.args.space.now c.enter_load-in-Lh.result c.sound.ensures c.requires.place (got_in c.args.entries.now c.args.space.now.code.entries c.args.number c.entry_of-e.result.now c.requires.entries c.entry_of-e.ensures) c.requires.zero refl
    (λ linked. c.enter_load-in-Lh.ensures.among c.args.count) (c.enter_load-in-Lh.ensures.done c.args.start c.args.number)

pub returns-in-Lw-clause-done : goal.returns-in-Lw-clause-done
returns-in-Lw-clause-done g c =
    entered (g.R.AccessRule.rule c.args.rule.now) c.args.book.now c.args.start c.args.count c.args.number c.entry_of-e.result.now c.args.x.now c.enter_load-in-Lw.new.x c.args.space.now c.args.space.now c.enter_load-in-Lw.result c.sound.ensures c.requires.place (got_in c.args.entries.now c.args.space.now.code.entries c.args.number c.entry_of-e.result.now c.requires.entries c.entry_of-e.ensures) c.requires.zero refl
    (λ linked. c.enter_load-in-Lw.ensures.among c.args.count) (c.enter_load-in-Lw.ensures.done c.args.start c.args.number)

pub returns-in-Lbu-clause-done : goal.returns-in-Lbu-clause-done
returns-in-Lbu-clause-done g c =
    entered (g.R.AccessRule.rule c.args.rule.now) c.args.book.now c.args.start c.args.count c.args.number c.entry_of-e.result.now c.args.x.now c.enter_load-in-Lbu.new.x c.args.space.now c.args.space.now c.enter_load-in-Lbu.result c.sound.ensures c.requires.place (got_in c.args.entries.now c.args.space.now.code.entries c.args.number c.entry_of-e.result.now c.requires.entries c.entry_of-e.ensures) c.requires.zero refl
    (λ linked. c.enter_load-in-Lbu.ensures.among c.args.count) (c.enter_load-in-Lbu.ensures.done c.args.start c.args.number)

pub returns-in-Lhu-clause-done : goal.returns-in-Lhu-clause-done
returns-in-Lhu-clause-done g c =
    entered (g.R.AccessRule.rule c.args.rule.now) c.args.book.now c.args.start c.args.count c.args.number c.entry_of-e.result.now c.args.x.now c.enter_load-in-Lhu.new.x c.args.space.now c.args.space.now c.enter_load-in-Lhu.result c.sound.ensures c.requires.place (got_in c.args.entries.now c.args.space.now.code.entries c.args.number c.entry_of-e.result.now c.requires.entries c.entry_of-e.ensures) c.requires.zero refl
    (λ linked. c.enter_load-in-Lhu.ensures.among c.args.count) (c.enter_load-in-Lhu.ensures.done c.args.start c.args.number)

pub returns-in-Sb-clause-done : goal.returns-in-Sb-clause-done
returns-in-Sb-clause-done g c =
    let fits : SFits w32 c.entry_of-e.result.now.imm = search rules in
    let e = to_z-of_z fits in
    entered (g.R.AccessRule.rule c.args.rule.now) c.args.book.now c.args.start c.args.count c.args.number c.entry_of-e.result.now c.args.x.now c.args.x.now c.args.space.now c.enter_store.new.space c.enter_store.result c.sound.ensures c.requires.place (got_in c.args.entries.now c.args.space.now.code.entries c.args.number c.entry_of-e.result.now c.requires.entries c.entry_of-e.ensures) c.requires.zero c.enter_store.ensures.stays.code
    (λ linked. c.enter_store.ensures.among c.args.count) (c.enter_store.ensures.done c.args.start c.args.number c.entry_of-e.result.now record { kind = c.requires.kind c.entry_of-e.result.now c.entry_of-e.ensures ∙ c.in-Sb.is; first = refl; second = refl; offset = sym e })

pub returns-in-Sh-clause-done : goal.returns-in-Sh-clause-done
returns-in-Sh-clause-done g c =
    let fits : SFits w32 c.entry_of-e.result.now.imm = search rules in
    let e = to_z-of_z fits in
    entered (g.R.AccessRule.rule c.args.rule.now) c.args.book.now c.args.start c.args.count c.args.number c.entry_of-e.result.now c.args.x.now c.args.x.now c.args.space.now c.enter_store-in-Sh.new.space c.enter_store-in-Sh.result c.sound.ensures c.requires.place (got_in c.args.entries.now c.args.space.now.code.entries c.args.number c.entry_of-e.result.now c.requires.entries c.entry_of-e.ensures) c.requires.zero c.enter_store-in-Sh.ensures.stays.code
    (λ linked. c.enter_store-in-Sh.ensures.among c.args.count) (c.enter_store-in-Sh.ensures.done c.args.start c.args.number c.entry_of-e.result.now record { kind = c.requires.kind c.entry_of-e.result.now c.entry_of-e.ensures ∙ c.in-Sh.is; first = refl; second = refl; offset = sym e })

pub returns-in-Sw-clause-done : goal.returns-in-Sw-clause-done
returns-in-Sw-clause-done g c =
    let fits : SFits w32 c.entry_of-e.result.now.imm = search rules in
    let e = to_z-of_z fits in
    entered (g.R.AccessRule.rule c.args.rule.now) c.args.book.now c.args.start c.args.count c.args.number c.entry_of-e.result.now c.args.x.now c.args.x.now c.args.space.now c.enter_store-in-Sw.new.space c.enter_store-in-Sw.result c.sound.ensures c.requires.place (got_in c.args.entries.now c.args.space.now.code.entries c.args.number c.entry_of-e.result.now c.requires.entries c.entry_of-e.ensures) c.requires.zero c.enter_store-in-Sw.ensures.stays.code
    (λ linked. c.enter_store-in-Sw.ensures.among c.args.count) (c.enter_store-in-Sw.ensures.done c.args.start c.args.number c.entry_of-e.result.now record { kind = c.requires.kind c.entry_of-e.result.now c.entry_of-e.ensures ∙ c.in-Sw.is; first = refl; second = refl; offset = sym e })

pub returns-in-Addi-clause-done : goal.returns-in-Addi-clause-done
returns-in-Addi-clause-done g c =
    entered (g.R.AccessRule.rule c.args.rule.now) c.args.book.now c.args.start c.args.count c.args.number c.entry_of-e.result.now c.args.x.now c.enter_op_imm.new.x c.args.space.now c.args.space.now c.enter_op_imm.result c.sound.ensures c.requires.place (got_in c.args.entries.now c.args.space.now.code.entries c.args.number c.entry_of-e.result.now c.requires.entries c.entry_of-e.ensures) c.requires.zero refl
    (λ linked. c.enter_op_imm.ensures.among c.args.count) (c.enter_op_imm.ensures.done (g.R.AccessRule.rule c.args.rule.now) c.args.book.now c.args.space.now c.args.start c.args.number)

pub returns-in-Slti-clause-done : goal.returns-in-Slti-clause-done
returns-in-Slti-clause-done g c =
    entered (g.R.AccessRule.rule c.args.rule.now) c.args.book.now c.args.start c.args.count c.args.number c.entry_of-e.result.now c.args.x.now c.enter_op_imm-in-Slti.new.x c.args.space.now c.args.space.now c.enter_op_imm-in-Slti.result c.sound.ensures c.requires.place (got_in c.args.entries.now c.args.space.now.code.entries c.args.number c.entry_of-e.result.now c.requires.entries c.entry_of-e.ensures) c.requires.zero refl
    (λ linked. c.enter_op_imm-in-Slti.ensures.among c.args.count) (c.enter_op_imm-in-Slti.ensures.done (g.R.AccessRule.rule c.args.rule.now) c.args.book.now c.args.space.now c.args.start c.args.number)

pub returns-in-Sltiu-clause-done : goal.returns-in-Sltiu-clause-done
returns-in-Sltiu-clause-done g c =
    entered (g.R.AccessRule.rule c.args.rule.now) c.args.book.now c.args.start c.args.count c.args.number c.entry_of-e.result.now c.args.x.now c.enter_op_imm-in-Sltiu.new.x c.args.space.now c.args.space.now c.enter_op_imm-in-Sltiu.result c.sound.ensures c.requires.place (got_in c.args.entries.now c.args.space.now.code.entries c.args.number c.entry_of-e.result.now c.requires.entries c.entry_of-e.ensures) c.requires.zero refl
    (λ linked. c.enter_op_imm-in-Sltiu.ensures.among c.args.count) (c.enter_op_imm-in-Sltiu.ensures.done (g.R.AccessRule.rule c.args.rule.now) c.args.book.now c.args.space.now c.args.start c.args.number)

pub returns-in-Xori-clause-done : goal.returns-in-Xori-clause-done
returns-in-Xori-clause-done g c =
    entered (g.R.AccessRule.rule c.args.rule.now) c.args.book.now c.args.start c.args.count c.args.number c.entry_of-e.result.now c.args.x.now c.enter_op_imm-in-Xori.new.x c.args.space.now c.args.space.now c.enter_op_imm-in-Xori.result c.sound.ensures c.requires.place (got_in c.args.entries.now c.args.space.now.code.entries c.args.number c.entry_of-e.result.now c.requires.entries c.entry_of-e.ensures) c.requires.zero refl
    (λ linked. c.enter_op_imm-in-Xori.ensures.among c.args.count) (c.enter_op_imm-in-Xori.ensures.done (g.R.AccessRule.rule c.args.rule.now) c.args.book.now c.args.space.now c.args.start c.args.number)

pub returns-in-Ori-clause-done : goal.returns-in-Ori-clause-done
returns-in-Ori-clause-done g c =
    entered (g.R.AccessRule.rule c.args.rule.now) c.args.book.now c.args.start c.args.count c.args.number c.entry_of-e.result.now c.args.x.now c.enter_op_imm-in-Ori.new.x c.args.space.now c.args.space.now c.enter_op_imm-in-Ori.result c.sound.ensures c.requires.place (got_in c.args.entries.now c.args.space.now.code.entries c.args.number c.entry_of-e.result.now c.requires.entries c.entry_of-e.ensures) c.requires.zero refl
    (λ linked. c.enter_op_imm-in-Ori.ensures.among c.args.count) (c.enter_op_imm-in-Ori.ensures.done (g.R.AccessRule.rule c.args.rule.now) c.args.book.now c.args.space.now c.args.start c.args.number)

pub returns-in-Andi-clause-done : goal.returns-in-Andi-clause-done
returns-in-Andi-clause-done g c =
    entered (g.R.AccessRule.rule c.args.rule.now) c.args.book.now c.args.start c.args.count c.args.number c.entry_of-e.result.now c.args.x.now c.enter_op_imm-in-Andi.new.x c.args.space.now c.args.space.now c.enter_op_imm-in-Andi.result c.sound.ensures c.requires.place (got_in c.args.entries.now c.args.space.now.code.entries c.args.number c.entry_of-e.result.now c.requires.entries c.entry_of-e.ensures) c.requires.zero refl
    (λ linked. c.enter_op_imm-in-Andi.ensures.among c.args.count) (c.enter_op_imm-in-Andi.ensures.done (g.R.AccessRule.rule c.args.rule.now) c.args.book.now c.args.space.now c.args.start c.args.number)

pub returns-in-Slli-clause-done : goal.returns-in-Slli-clause-done
returns-in-Slli-clause-done g c =
    entered (g.R.AccessRule.rule c.args.rule.now) c.args.book.now c.args.start c.args.count c.args.number c.entry_of-e.result.now c.args.x.now c.enter_op_imm-in-Slli.new.x c.args.space.now c.args.space.now c.enter_op_imm-in-Slli.result c.sound.ensures c.requires.place (got_in c.args.entries.now c.args.space.now.code.entries c.args.number c.entry_of-e.result.now c.requires.entries c.entry_of-e.ensures) c.requires.zero refl
    (λ linked. c.enter_op_imm-in-Slli.ensures.among c.args.count) (c.enter_op_imm-in-Slli.ensures.done (g.R.AccessRule.rule c.args.rule.now) c.args.book.now c.args.space.now c.args.start c.args.number)

pub returns-in-Srli-clause-done : goal.returns-in-Srli-clause-done
returns-in-Srli-clause-done g c =
    entered (g.R.AccessRule.rule c.args.rule.now) c.args.book.now c.args.start c.args.count c.args.number c.entry_of-e.result.now c.args.x.now c.enter_op_imm-in-Srli.new.x c.args.space.now c.args.space.now c.enter_op_imm-in-Srli.result c.sound.ensures c.requires.place (got_in c.args.entries.now c.args.space.now.code.entries c.args.number c.entry_of-e.result.now c.requires.entries c.entry_of-e.ensures) c.requires.zero refl
    (λ linked. c.enter_op_imm-in-Srli.ensures.among c.args.count) (c.enter_op_imm-in-Srli.ensures.done (g.R.AccessRule.rule c.args.rule.now) c.args.book.now c.args.space.now c.args.start c.args.number)

pub returns-in-Srai-clause-done : goal.returns-in-Srai-clause-done
returns-in-Srai-clause-done g c =
    entered (g.R.AccessRule.rule c.args.rule.now) c.args.book.now c.args.start c.args.count c.args.number c.entry_of-e.result.now c.args.x.now c.enter_op_imm-in-Srai.new.x c.args.space.now c.args.space.now c.enter_op_imm-in-Srai.result c.sound.ensures c.requires.place (got_in c.args.entries.now c.args.space.now.code.entries c.args.number c.entry_of-e.result.now c.requires.entries c.entry_of-e.ensures) c.requires.zero refl
    (λ linked. c.enter_op_imm-in-Srai.ensures.among c.args.count) (c.enter_op_imm-in-Srai.ensures.done (g.R.AccessRule.rule c.args.rule.now) c.args.book.now c.args.space.now c.args.start c.args.number)

pub returns-in-Add-clause-done : goal.returns-in-Add-clause-done
returns-in-Add-clause-done g c =
    entered (g.R.AccessRule.rule c.args.rule.now) c.args.book.now c.args.start c.args.count c.args.number c.entry_of-e.result.now c.args.x.now c.enter_op.new.x c.args.space.now c.args.space.now c.enter_op.result c.sound.ensures c.requires.place (got_in c.args.entries.now c.args.space.now.code.entries c.args.number c.entry_of-e.result.now c.requires.entries c.entry_of-e.ensures) c.requires.zero refl
    (λ linked. c.enter_op.ensures.among c.args.count) (c.enter_op.ensures.done (g.R.AccessRule.rule c.args.rule.now) c.args.book.now c.args.space.now c.args.start c.args.number)

pub returns-in-Sub-clause-done : goal.returns-in-Sub-clause-done
returns-in-Sub-clause-done g c =
    entered (g.R.AccessRule.rule c.args.rule.now) c.args.book.now c.args.start c.args.count c.args.number c.entry_of-e.result.now c.args.x.now c.enter_op-in-Sub.new.x c.args.space.now c.args.space.now c.enter_op-in-Sub.result c.sound.ensures c.requires.place (got_in c.args.entries.now c.args.space.now.code.entries c.args.number c.entry_of-e.result.now c.requires.entries c.entry_of-e.ensures) c.requires.zero refl
    (λ linked. c.enter_op-in-Sub.ensures.among c.args.count) (c.enter_op-in-Sub.ensures.done (g.R.AccessRule.rule c.args.rule.now) c.args.book.now c.args.space.now c.args.start c.args.number)

pub returns-in-Sll-clause-done : goal.returns-in-Sll-clause-done
returns-in-Sll-clause-done g c =
    entered (g.R.AccessRule.rule c.args.rule.now) c.args.book.now c.args.start c.args.count c.args.number c.entry_of-e.result.now c.args.x.now c.enter_op-in-Sll.new.x c.args.space.now c.args.space.now c.enter_op-in-Sll.result c.sound.ensures c.requires.place (got_in c.args.entries.now c.args.space.now.code.entries c.args.number c.entry_of-e.result.now c.requires.entries c.entry_of-e.ensures) c.requires.zero refl
    (λ linked. c.enter_op-in-Sll.ensures.among c.args.count) (c.enter_op-in-Sll.ensures.done (g.R.AccessRule.rule c.args.rule.now) c.args.book.now c.args.space.now c.args.start c.args.number)

pub returns-in-Slt-clause-done : goal.returns-in-Slt-clause-done
returns-in-Slt-clause-done g c =
    entered (g.R.AccessRule.rule c.args.rule.now) c.args.book.now c.args.start c.args.count c.args.number c.entry_of-e.result.now c.args.x.now c.enter_op-in-Slt.new.x c.args.space.now c.args.space.now c.enter_op-in-Slt.result c.sound.ensures c.requires.place (got_in c.args.entries.now c.args.space.now.code.entries c.args.number c.entry_of-e.result.now c.requires.entries c.entry_of-e.ensures) c.requires.zero refl
    (λ linked. c.enter_op-in-Slt.ensures.among c.args.count) (c.enter_op-in-Slt.ensures.done (g.R.AccessRule.rule c.args.rule.now) c.args.book.now c.args.space.now c.args.start c.args.number)

pub returns-in-Sltu-clause-done : goal.returns-in-Sltu-clause-done
returns-in-Sltu-clause-done g c =
    entered (g.R.AccessRule.rule c.args.rule.now) c.args.book.now c.args.start c.args.count c.args.number c.entry_of-e.result.now c.args.x.now c.enter_op-in-Sltu.new.x c.args.space.now c.args.space.now c.enter_op-in-Sltu.result c.sound.ensures c.requires.place (got_in c.args.entries.now c.args.space.now.code.entries c.args.number c.entry_of-e.result.now c.requires.entries c.entry_of-e.ensures) c.requires.zero refl
    (λ linked. c.enter_op-in-Sltu.ensures.among c.args.count) (c.enter_op-in-Sltu.ensures.done (g.R.AccessRule.rule c.args.rule.now) c.args.book.now c.args.space.now c.args.start c.args.number)

pub returns-in-Xor-clause-done : goal.returns-in-Xor-clause-done
returns-in-Xor-clause-done g c =
    entered (g.R.AccessRule.rule c.args.rule.now) c.args.book.now c.args.start c.args.count c.args.number c.entry_of-e.result.now c.args.x.now c.enter_op-in-Xor.new.x c.args.space.now c.args.space.now c.enter_op-in-Xor.result c.sound.ensures c.requires.place (got_in c.args.entries.now c.args.space.now.code.entries c.args.number c.entry_of-e.result.now c.requires.entries c.entry_of-e.ensures) c.requires.zero refl
    (λ linked. c.enter_op-in-Xor.ensures.among c.args.count) (c.enter_op-in-Xor.ensures.done (g.R.AccessRule.rule c.args.rule.now) c.args.book.now c.args.space.now c.args.start c.args.number)

pub returns-in-Srl-clause-done : goal.returns-in-Srl-clause-done
returns-in-Srl-clause-done g c =
    entered (g.R.AccessRule.rule c.args.rule.now) c.args.book.now c.args.start c.args.count c.args.number c.entry_of-e.result.now c.args.x.now c.enter_op-in-Srl.new.x c.args.space.now c.args.space.now c.enter_op-in-Srl.result c.sound.ensures c.requires.place (got_in c.args.entries.now c.args.space.now.code.entries c.args.number c.entry_of-e.result.now c.requires.entries c.entry_of-e.ensures) c.requires.zero refl
    (λ linked. c.enter_op-in-Srl.ensures.among c.args.count) (c.enter_op-in-Srl.ensures.done (g.R.AccessRule.rule c.args.rule.now) c.args.book.now c.args.space.now c.args.start c.args.number)

pub returns-in-Sra-clause-done : goal.returns-in-Sra-clause-done
returns-in-Sra-clause-done g c =
    entered (g.R.AccessRule.rule c.args.rule.now) c.args.book.now c.args.start c.args.count c.args.number c.entry_of-e.result.now c.args.x.now c.enter_op-in-Sra.new.x c.args.space.now c.args.space.now c.enter_op-in-Sra.result c.sound.ensures c.requires.place (got_in c.args.entries.now c.args.space.now.code.entries c.args.number c.entry_of-e.result.now c.requires.entries c.entry_of-e.ensures) c.requires.zero refl
    (λ linked. c.enter_op-in-Sra.ensures.among c.args.count) (c.enter_op-in-Sra.ensures.done (g.R.AccessRule.rule c.args.rule.now) c.args.book.now c.args.space.now c.args.start c.args.number)

pub returns-in-Or-clause-done : goal.returns-in-Or-clause-done
returns-in-Or-clause-done g c =
    entered (g.R.AccessRule.rule c.args.rule.now) c.args.book.now c.args.start c.args.count c.args.number c.entry_of-e.result.now c.args.x.now c.enter_op-in-Or.new.x c.args.space.now c.args.space.now c.enter_op-in-Or.result c.sound.ensures c.requires.place (got_in c.args.entries.now c.args.space.now.code.entries c.args.number c.entry_of-e.result.now c.requires.entries c.entry_of-e.ensures) c.requires.zero refl
    (λ linked. c.enter_op-in-Or.ensures.among c.args.count) (c.enter_op-in-Or.ensures.done (g.R.AccessRule.rule c.args.rule.now) c.args.book.now c.args.space.now c.args.start c.args.number)

pub returns-in-And-clause-done : goal.returns-in-And-clause-done
returns-in-And-clause-done g c =
    entered (g.R.AccessRule.rule c.args.rule.now) c.args.book.now c.args.start c.args.count c.args.number c.entry_of-e.result.now c.args.x.now c.enter_op-in-And.new.x c.args.space.now c.args.space.now c.enter_op-in-And.result c.sound.ensures c.requires.place (got_in c.args.entries.now c.args.space.now.code.entries c.args.number c.entry_of-e.result.now c.requires.entries c.entry_of-e.ensures) c.requires.zero refl
    (λ linked. c.enter_op-in-And.ensures.among c.args.count) (c.enter_op-in-And.ensures.done (g.R.AccessRule.rule c.args.rule.now) c.args.book.now c.args.space.now c.args.start c.args.number)

pub returns-in-Mul-clause-done : goal.returns-in-Mul-clause-done
returns-in-Mul-clause-done g c =
    entered (g.R.AccessRule.rule c.args.rule.now) c.args.book.now c.args.start c.args.count c.args.number c.entry_of-e.result.now c.args.x.now c.enter_op-in-Mul.new.x c.args.space.now c.args.space.now c.enter_op-in-Mul.result c.sound.ensures c.requires.place (got_in c.args.entries.now c.args.space.now.code.entries c.args.number c.entry_of-e.result.now c.requires.entries c.entry_of-e.ensures) c.requires.zero refl
    (λ linked. c.enter_op-in-Mul.ensures.among c.args.count) (c.enter_op-in-Mul.ensures.done (g.R.AccessRule.rule c.args.rule.now) c.args.book.now c.args.space.now c.args.start c.args.number)

pub returns-in-Mulh-clause-done : goal.returns-in-Mulh-clause-done
returns-in-Mulh-clause-done g c =
    entered (g.R.AccessRule.rule c.args.rule.now) c.args.book.now c.args.start c.args.count c.args.number c.entry_of-e.result.now c.args.x.now c.enter_op-in-Mulh.new.x c.args.space.now c.args.space.now c.enter_op-in-Mulh.result c.sound.ensures c.requires.place (got_in c.args.entries.now c.args.space.now.code.entries c.args.number c.entry_of-e.result.now c.requires.entries c.entry_of-e.ensures) c.requires.zero refl
    (λ linked. c.enter_op-in-Mulh.ensures.among c.args.count) (c.enter_op-in-Mulh.ensures.done (g.R.AccessRule.rule c.args.rule.now) c.args.book.now c.args.space.now c.args.start c.args.number)

pub returns-in-Mulhsu-clause-done : goal.returns-in-Mulhsu-clause-done
returns-in-Mulhsu-clause-done g c =
    entered (g.R.AccessRule.rule c.args.rule.now) c.args.book.now c.args.start c.args.count c.args.number c.entry_of-e.result.now c.args.x.now c.enter_op-in-Mulhsu.new.x c.args.space.now c.args.space.now c.enter_op-in-Mulhsu.result c.sound.ensures c.requires.place (got_in c.args.entries.now c.args.space.now.code.entries c.args.number c.entry_of-e.result.now c.requires.entries c.entry_of-e.ensures) c.requires.zero refl
    (λ linked. c.enter_op-in-Mulhsu.ensures.among c.args.count) (c.enter_op-in-Mulhsu.ensures.done (g.R.AccessRule.rule c.args.rule.now) c.args.book.now c.args.space.now c.args.start c.args.number)

pub returns-in-Mulhu-clause-done : goal.returns-in-Mulhu-clause-done
returns-in-Mulhu-clause-done g c =
    entered (g.R.AccessRule.rule c.args.rule.now) c.args.book.now c.args.start c.args.count c.args.number c.entry_of-e.result.now c.args.x.now c.enter_op-in-Mulhu.new.x c.args.space.now c.args.space.now c.enter_op-in-Mulhu.result c.sound.ensures c.requires.place (got_in c.args.entries.now c.args.space.now.code.entries c.args.number c.entry_of-e.result.now c.requires.entries c.entry_of-e.ensures) c.requires.zero refl
    (λ linked. c.enter_op-in-Mulhu.ensures.among c.args.count) (c.enter_op-in-Mulhu.ensures.done (g.R.AccessRule.rule c.args.rule.now) c.args.book.now c.args.space.now c.args.start c.args.number)

pub returns-in-Div-clause-done : goal.returns-in-Div-clause-done
returns-in-Div-clause-done g c =
    entered (g.R.AccessRule.rule c.args.rule.now) c.args.book.now c.args.start c.args.count c.args.number c.entry_of-e.result.now c.args.x.now c.enter_op-in-Div.new.x c.args.space.now c.args.space.now c.enter_op-in-Div.result c.sound.ensures c.requires.place (got_in c.args.entries.now c.args.space.now.code.entries c.args.number c.entry_of-e.result.now c.requires.entries c.entry_of-e.ensures) c.requires.zero refl
    (λ linked. c.enter_op-in-Div.ensures.among c.args.count) (c.enter_op-in-Div.ensures.done (g.R.AccessRule.rule c.args.rule.now) c.args.book.now c.args.space.now c.args.start c.args.number)

pub returns-in-Divu-clause-done : goal.returns-in-Divu-clause-done
returns-in-Divu-clause-done g c =
    entered (g.R.AccessRule.rule c.args.rule.now) c.args.book.now c.args.start c.args.count c.args.number c.entry_of-e.result.now c.args.x.now c.enter_op-in-Divu.new.x c.args.space.now c.args.space.now c.enter_op-in-Divu.result c.sound.ensures c.requires.place (got_in c.args.entries.now c.args.space.now.code.entries c.args.number c.entry_of-e.result.now c.requires.entries c.entry_of-e.ensures) c.requires.zero refl
    (λ linked. c.enter_op-in-Divu.ensures.among c.args.count) (c.enter_op-in-Divu.ensures.done (g.R.AccessRule.rule c.args.rule.now) c.args.book.now c.args.space.now c.args.start c.args.number)

pub returns-in-Rem-clause-done : goal.returns-in-Rem-clause-done
returns-in-Rem-clause-done g c =
    entered (g.R.AccessRule.rule c.args.rule.now) c.args.book.now c.args.start c.args.count c.args.number c.entry_of-e.result.now c.args.x.now c.enter_op-in-Rem.new.x c.args.space.now c.args.space.now c.enter_op-in-Rem.result c.sound.ensures c.requires.place (got_in c.args.entries.now c.args.space.now.code.entries c.args.number c.entry_of-e.result.now c.requires.entries c.entry_of-e.ensures) c.requires.zero refl
    (λ linked. c.enter_op-in-Rem.ensures.among c.args.count) (c.enter_op-in-Rem.ensures.done (g.R.AccessRule.rule c.args.rule.now) c.args.book.now c.args.space.now c.args.start c.args.number)

pub returns-in-Remu-clause-done : goal.returns-in-Remu-clause-done
returns-in-Remu-clause-done g c =
    entered (g.R.AccessRule.rule c.args.rule.now) c.args.book.now c.args.start c.args.count c.args.number c.entry_of-e.result.now c.args.x.now c.enter_op-in-Remu.new.x c.args.space.now c.args.space.now c.enter_op-in-Remu.result c.sound.ensures c.requires.place (got_in c.args.entries.now c.args.space.now.code.entries c.args.number c.entry_of-e.result.now c.requires.entries c.entry_of-e.ensures) c.requires.zero refl
    (λ linked. c.enter_op-in-Remu.ensures.among c.args.count) (c.enter_op-in-Remu.ensures.done (g.R.AccessRule.rule c.args.rule.now) c.args.book.now c.args.space.now c.args.start c.args.number)
