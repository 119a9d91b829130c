use Rattle.rv_exec.proofs.Terms.{Ok, SFits, ap, rules, subst, sym, to_z-of_z, true, w32, ◌∙◌, ◌≡◌, slice_index, slice_set, ◌<◌, displaced, Reads, flat}
use Rattle.rv_exec.proofs.EntryLemmas.{load_done}
use Rattle.rv_exec.proofs.anew.load_anew.Goals as goal

pub returns-clause-done : goal.returns-clause-done
returns-clause-done g c = λ start number word says.
    let fits : SFits w32 c.args.e.now.imm = search rules in
    let e = to_z-of_z fits in
    let first : c.args.e.now.rs1 < 32 = search rules in
    let allowed : c.permits.result ≡ true = search rules in
    load_done (g.R.AccessRule.rule c.args.rule.now) c.args.book.now start number word c.args.e.now c.args.x.now c.args.space.now c.requires.zero c.args.op c.displace-at.result c.in-Some.value _ c.requires.kind first
    (c.displace-at.ensures ∙ ap (displaced (slice_index c.args.x.now c.args.e.now.rs1)) e)
    (ap (g.R.AccessRule.rule c.args.rule.now c.args.book.now c.displace-at.result) (sym c.bytes_loaded-size.ensures) ∙ sym c.permits.ensures ∙ allowed)
    (subst (λ n. Reads 4 (flat c.args.space.now) c.displace-at.result n (Ok c.in-Some.value)) c.bytes_loaded-size.ensures c.in-Some.ensures.value)
    says (ap (slice_set c.args.x.now c.args.e.now.rd) c.extend.ensures)
