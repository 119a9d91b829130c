use Rattle.rv_exec.proofs.Terms.{SFits, ap, refl, rules, sym, to_z-of_z, true, w32, ◌∙◌, ◌≡◌, slice_index, displaced}
use Rattle.rv_exec.proofs.QuickLemmas.{stored_is}
use Rattle.rv_exec.proofs.EntryLemmas.{written_store}
use Rattle.rv_exec.proofs.anew.store_anew.Goals as goal

pub returns-clause-done : goal.returns-clause-done
returns-clause-done g c = λ start number entry fields word says.
    let fits : SFits w32 c.args.imm = search rules in
    let e = to_z-of_z fits in
    let allowed : c.permits.result ≡ true = search rules in
    let stored = stored_is c.store_from.result c.args.space.now c.store_from.new.self c.displace-at.result _ _ _ _ c.if-not-store_from.false c.store_from.ensures.stored c.bytes_stored-size.ensures refl in
    written_store (g.R.AccessRule.rule c.args.rule.now) c.args.book.now start number word entry c.args.x.now c.args.space.now c.requires.zero c.args.op c.displace-at.result c.args.rs1 c.args.rs2 c.args.imm c.store_from.new.self fields c.requires.first c.requires.second
    (c.displace-at.ensures ∙ ap (displaced (slice_index c.args.x.now c.args.rs1)) e)
    (ap (g.R.AccessRule.rule c.args.rule.now c.args.book.now c.displace-at.result) (sym c.bytes_stored-size.ensures) ∙ sym c.permits.ensures ∙ allowed)
    stored.0 stored.1 says
