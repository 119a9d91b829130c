use Rattle.rv_exec.proofs.Terms.{subst, Fits}
use Rattle.rv_exec.proofs.EntryLoop.{runs_none}
use Rattle.rv_exec.proofs.kinds.enter_kind.Goals as goal

pub returns-in-Slow : goal.returns-in-Slow
returns-in-Slow g c = runs_none c.requires.may

pub run_one-requires-clause-fits : goal.run_one-requires-clause-fits
run_one-requires-clause-fits g c = subst (Fits c.args.entries.now c.args.number.now) c.in-OneSet.is c.requires.fits

pub run_one-requires-in-OneJal-clause-fits : goal.run_one-requires-in-OneJal-clause-fits
run_one-requires-in-OneJal-clause-fits g c = subst (Fits c.args.entries.now c.args.number.now) c.in-OneJal.is c.requires.fits

pub run_one-requires-in-OneJalr-clause-fits : goal.run_one-requires-in-OneJalr-clause-fits
run_one-requires-in-OneJalr-clause-fits g c = subst (Fits c.args.entries.now c.args.number.now) c.in-OneJalr.is c.requires.fits

pub run_one-requires-in-OneBeq-clause-fits : goal.run_one-requires-in-OneBeq-clause-fits
run_one-requires-in-OneBeq-clause-fits g c = subst (Fits c.args.entries.now c.args.number.now) c.in-OneBeq.is c.requires.fits

pub run_one-requires-in-OneBne-clause-fits : goal.run_one-requires-in-OneBne-clause-fits
run_one-requires-in-OneBne-clause-fits g c = subst (Fits c.args.entries.now c.args.number.now) c.in-OneBne.is c.requires.fits

pub run_one-requires-in-OneBlt-clause-fits : goal.run_one-requires-in-OneBlt-clause-fits
run_one-requires-in-OneBlt-clause-fits g c = subst (Fits c.args.entries.now c.args.number.now) c.in-OneBlt.is c.requires.fits

pub run_one-requires-in-OneBge-clause-fits : goal.run_one-requires-in-OneBge-clause-fits
run_one-requires-in-OneBge-clause-fits g c = subst (Fits c.args.entries.now c.args.number.now) c.in-OneBge.is c.requires.fits

pub run_one-requires-in-OneBltu-clause-fits : goal.run_one-requires-in-OneBltu-clause-fits
run_one-requires-in-OneBltu-clause-fits g c = subst (Fits c.args.entries.now c.args.number.now) c.in-OneBltu.is c.requires.fits

pub run_one-requires-in-OneBgeu-clause-fits : goal.run_one-requires-in-OneBgeu-clause-fits
run_one-requires-in-OneBgeu-clause-fits g c = subst (Fits c.args.entries.now c.args.number.now) c.in-OneBgeu.is c.requires.fits

pub run_one-requires-in-OneLb-clause-fits : goal.run_one-requires-in-OneLb-clause-fits
run_one-requires-in-OneLb-clause-fits g c = subst (Fits c.args.entries.now c.args.number.now) c.in-OneLb.is c.requires.fits

pub run_one-requires-in-OneLh-clause-fits : goal.run_one-requires-in-OneLh-clause-fits
run_one-requires-in-OneLh-clause-fits g c = subst (Fits c.args.entries.now c.args.number.now) c.in-OneLh.is c.requires.fits

pub run_one-requires-in-OneLw-clause-fits : goal.run_one-requires-in-OneLw-clause-fits
run_one-requires-in-OneLw-clause-fits g c = subst (Fits c.args.entries.now c.args.number.now) c.in-OneLw.is c.requires.fits

pub run_one-requires-in-OneLbu-clause-fits : goal.run_one-requires-in-OneLbu-clause-fits
run_one-requires-in-OneLbu-clause-fits g c = subst (Fits c.args.entries.now c.args.number.now) c.in-OneLbu.is c.requires.fits

pub run_one-requires-in-OneLhu-clause-fits : goal.run_one-requires-in-OneLhu-clause-fits
run_one-requires-in-OneLhu-clause-fits g c = subst (Fits c.args.entries.now c.args.number.now) c.in-OneLhu.is c.requires.fits

pub run_one-requires-in-OneSb-clause-fits : goal.run_one-requires-in-OneSb-clause-fits
run_one-requires-in-OneSb-clause-fits g c = subst (Fits c.args.entries.now c.args.number.now) c.in-OneSb.is c.requires.fits

pub run_one-requires-in-OneSh-clause-fits : goal.run_one-requires-in-OneSh-clause-fits
run_one-requires-in-OneSh-clause-fits g c = subst (Fits c.args.entries.now c.args.number.now) c.in-OneSh.is c.requires.fits

pub run_one-requires-in-OneSw-clause-fits : goal.run_one-requires-in-OneSw-clause-fits
run_one-requires-in-OneSw-clause-fits g c = subst (Fits c.args.entries.now c.args.number.now) c.in-OneSw.is c.requires.fits

pub run_one-requires-in-OneAddi-clause-fits : goal.run_one-requires-in-OneAddi-clause-fits
run_one-requires-in-OneAddi-clause-fits g c = subst (Fits c.args.entries.now c.args.number.now) c.in-OneAddi.is c.requires.fits

pub run_one-requires-in-OneSlti-clause-fits : goal.run_one-requires-in-OneSlti-clause-fits
run_one-requires-in-OneSlti-clause-fits g c = subst (Fits c.args.entries.now c.args.number.now) c.in-OneSlti.is c.requires.fits

pub run_one-requires-in-OneSltiu-clause-fits : goal.run_one-requires-in-OneSltiu-clause-fits
run_one-requires-in-OneSltiu-clause-fits g c = subst (Fits c.args.entries.now c.args.number.now) c.in-OneSltiu.is c.requires.fits

pub run_one-requires-in-OneXori-clause-fits : goal.run_one-requires-in-OneXori-clause-fits
run_one-requires-in-OneXori-clause-fits g c = subst (Fits c.args.entries.now c.args.number.now) c.in-OneXori.is c.requires.fits

pub run_one-requires-in-OneOri-clause-fits : goal.run_one-requires-in-OneOri-clause-fits
run_one-requires-in-OneOri-clause-fits g c = subst (Fits c.args.entries.now c.args.number.now) c.in-OneOri.is c.requires.fits

pub run_one-requires-in-OneAndi-clause-fits : goal.run_one-requires-in-OneAndi-clause-fits
run_one-requires-in-OneAndi-clause-fits g c = subst (Fits c.args.entries.now c.args.number.now) c.in-OneAndi.is c.requires.fits

pub run_one-requires-in-OneSlli-clause-fits : goal.run_one-requires-in-OneSlli-clause-fits
run_one-requires-in-OneSlli-clause-fits g c = subst (Fits c.args.entries.now c.args.number.now) c.in-OneSlli.is c.requires.fits

pub run_one-requires-in-OneSrli-clause-fits : goal.run_one-requires-in-OneSrli-clause-fits
run_one-requires-in-OneSrli-clause-fits g c = subst (Fits c.args.entries.now c.args.number.now) c.in-OneSrli.is c.requires.fits

pub run_one-requires-in-OneSrai-clause-fits : goal.run_one-requires-in-OneSrai-clause-fits
run_one-requires-in-OneSrai-clause-fits g c = subst (Fits c.args.entries.now c.args.number.now) c.in-OneSrai.is c.requires.fits

pub run_one-requires-in-OneAdd-clause-fits : goal.run_one-requires-in-OneAdd-clause-fits
run_one-requires-in-OneAdd-clause-fits g c = subst (Fits c.args.entries.now c.args.number.now) c.in-OneAdd.is c.requires.fits

pub run_one-requires-in-OneSub-clause-fits : goal.run_one-requires-in-OneSub-clause-fits
run_one-requires-in-OneSub-clause-fits g c = subst (Fits c.args.entries.now c.args.number.now) c.in-OneSub.is c.requires.fits

pub run_one-requires-in-OneSll-clause-fits : goal.run_one-requires-in-OneSll-clause-fits
run_one-requires-in-OneSll-clause-fits g c = subst (Fits c.args.entries.now c.args.number.now) c.in-OneSll.is c.requires.fits

pub run_one-requires-in-OneSlt-clause-fits : goal.run_one-requires-in-OneSlt-clause-fits
run_one-requires-in-OneSlt-clause-fits g c = subst (Fits c.args.entries.now c.args.number.now) c.in-OneSlt.is c.requires.fits

pub run_one-requires-in-OneSltu-clause-fits : goal.run_one-requires-in-OneSltu-clause-fits
run_one-requires-in-OneSltu-clause-fits g c = subst (Fits c.args.entries.now c.args.number.now) c.in-OneSltu.is c.requires.fits

pub run_one-requires-in-OneXor-clause-fits : goal.run_one-requires-in-OneXor-clause-fits
run_one-requires-in-OneXor-clause-fits g c = subst (Fits c.args.entries.now c.args.number.now) c.in-OneXor.is c.requires.fits

pub run_one-requires-in-OneSrl-clause-fits : goal.run_one-requires-in-OneSrl-clause-fits
run_one-requires-in-OneSrl-clause-fits g c = subst (Fits c.args.entries.now c.args.number.now) c.in-OneSrl.is c.requires.fits

pub run_one-requires-in-OneSra-clause-fits : goal.run_one-requires-in-OneSra-clause-fits
run_one-requires-in-OneSra-clause-fits g c = subst (Fits c.args.entries.now c.args.number.now) c.in-OneSra.is c.requires.fits

pub run_one-requires-in-OneOr-clause-fits : goal.run_one-requires-in-OneOr-clause-fits
run_one-requires-in-OneOr-clause-fits g c = subst (Fits c.args.entries.now c.args.number.now) c.in-OneOr.is c.requires.fits

pub run_one-requires-in-OneAnd-clause-fits : goal.run_one-requires-in-OneAnd-clause-fits
run_one-requires-in-OneAnd-clause-fits g c = subst (Fits c.args.entries.now c.args.number.now) c.in-OneAnd.is c.requires.fits

pub run_one-requires-in-OneMul-clause-fits : goal.run_one-requires-in-OneMul-clause-fits
run_one-requires-in-OneMul-clause-fits g c = subst (Fits c.args.entries.now c.args.number.now) c.in-OneMul.is c.requires.fits

pub run_one-requires-in-OneMulh-clause-fits : goal.run_one-requires-in-OneMulh-clause-fits
run_one-requires-in-OneMulh-clause-fits g c = subst (Fits c.args.entries.now c.args.number.now) c.in-OneMulh.is c.requires.fits

pub run_one-requires-in-OneMulhsu-clause-fits : goal.run_one-requires-in-OneMulhsu-clause-fits
run_one-requires-in-OneMulhsu-clause-fits g c = subst (Fits c.args.entries.now c.args.number.now) c.in-OneMulhsu.is c.requires.fits

pub run_one-requires-in-OneMulhu-clause-fits : goal.run_one-requires-in-OneMulhu-clause-fits
run_one-requires-in-OneMulhu-clause-fits g c = subst (Fits c.args.entries.now c.args.number.now) c.in-OneMulhu.is c.requires.fits

pub run_one-requires-in-OneDiv-clause-fits : goal.run_one-requires-in-OneDiv-clause-fits
run_one-requires-in-OneDiv-clause-fits g c = subst (Fits c.args.entries.now c.args.number.now) c.in-OneDiv.is c.requires.fits

pub run_one-requires-in-OneDivu-clause-fits : goal.run_one-requires-in-OneDivu-clause-fits
run_one-requires-in-OneDivu-clause-fits g c = subst (Fits c.args.entries.now c.args.number.now) c.in-OneDivu.is c.requires.fits

pub run_one-requires-in-OneRem-clause-fits : goal.run_one-requires-in-OneRem-clause-fits
run_one-requires-in-OneRem-clause-fits g c = subst (Fits c.args.entries.now c.args.number.now) c.in-OneRem.is c.requires.fits

pub run_one-requires-in-OneRemu-clause-fits : goal.run_one-requires-in-OneRemu-clause-fits
run_one-requires-in-OneRemu-clause-fits g c = subst (Fits c.args.entries.now c.args.number.now) c.in-OneRemu.is c.requires.fits

pub run_four-requires-clause-fits : goal.run_four-requires-clause-fits
run_four-requires-clause-fits g c = subst (Fits c.args.entries.now c.args.number.now) c.in-AddiBneAddiAddi.is c.requires.fits

pub run_four-requires-in-BneAddiAddiAddi-clause-fits : goal.run_four-requires-in-BneAddiAddiAddi-clause-fits
run_four-requires-in-BneAddiAddiAddi-clause-fits g c = subst (Fits c.args.entries.now c.args.number.now) c.in-BneAddiAddiAddi.is c.requires.fits

pub run_four-requires-in-LwAddSlliXor-clause-fits : goal.run_four-requires-in-LwAddSlliXor-clause-fits
run_four-requires-in-LwAddSlliXor-clause-fits g c = subst (Fits c.args.entries.now c.args.number.now) c.in-LwAddSlliXor.is c.requires.fits

pub run_four-requires-in-AddSlliXorSrli-clause-fits : goal.run_four-requires-in-AddSlliXorSrli-clause-fits
run_four-requires-in-AddSlliXorSrli-clause-fits g c = subst (Fits c.args.entries.now c.args.number.now) c.in-AddSlliXorSrli.is c.requires.fits

pub run_three-requires-clause-fits : goal.run_three-requires-clause-fits
run_three-requires-clause-fits g c = subst (Fits c.args.entries.now c.args.number.now) c.in-XorSwAddi.is c.requires.fits

pub run_four-requires-in-LbuLbuLbuLbu-clause-fits : goal.run_four-requires-in-LbuLbuLbuLbu-clause-fits
run_four-requires-in-LbuLbuLbuLbu-clause-fits g c = subst (Fits c.args.entries.now c.args.number.now) c.in-LbuLbuLbuLbu.is c.requires.fits

pub run_four-requires-in-AddiSbBneJalr-clause-fits : goal.run_four-requires-in-AddiSbBneJalr-clause-fits
run_four-requires-in-AddiSbBneJalr-clause-fits g c = subst (Fits c.args.entries.now c.args.number.now) c.in-AddiSbBneJalr.is c.requires.fits

pub run_four-requires-in-SbSbSbSb-clause-fits : goal.run_four-requires-in-SbSbSbSb-clause-fits
run_four-requires-in-SbSbSbSb-clause-fits g c = subst (Fits c.args.entries.now c.args.number.now) c.in-SbSbSbSb.is c.requires.fits

pub run_four-requires-in-LwAddiSwBne-clause-fits : goal.run_four-requires-in-LwAddiSwBne-clause-fits
run_four-requires-in-LwAddiSwBne-clause-fits g c = subst (Fits c.args.entries.now c.args.number.now) c.in-LwAddiSwBne.is c.requires.fits

pub run_four-requires-in-AddiSwBneLw-clause-fits : goal.run_four-requires-in-AddiSwBneLw-clause-fits
run_four-requires-in-AddiSwBneLw-clause-fits g c = subst (Fits c.args.entries.now c.args.number.now) c.in-AddiSwBneLw.is c.requires.fits

pub run_three-requires-in-LwSwLw-clause-fits : goal.run_three-requires-in-LwSwLw-clause-fits
run_three-requires-in-LwSwLw-clause-fits g c = subst (Fits c.args.entries.now c.args.number.now) c.in-LwSwLw.is c.requires.fits

pub run_two-requires-clause-fits : goal.run_two-requires-clause-fits
run_two-requires-clause-fits g c = subst (Fits c.args.entries.now c.args.number.now) c.in-AddiAddi.is c.requires.fits

pub run_four-requires-in-LwLwLwLw-clause-fits : goal.run_four-requires-in-LwLwLwLw-clause-fits
run_four-requires-in-LwLwLwLw-clause-fits g c = subst (Fits c.args.entries.now c.args.number.now) c.in-LwLwLwLw.is c.requires.fits

pub run_four-requires-in-SlliSlliOrOr-clause-fits : goal.run_four-requires-in-SlliSlliOrOr-clause-fits
run_four-requires-in-SlliSlliOrOr-clause-fits g c = subst (Fits c.args.entries.now c.args.number.now) c.in-SlliSlliOrOr.is c.requires.fits

pub run_four-requires-in-SwSwSwSw-clause-fits : goal.run_four-requires-in-SwSwSwSw-clause-fits
run_four-requires-in-SwSwSwSw-clause-fits g c = subst (Fits c.args.entries.now c.args.number.now) c.in-SwSwSwSw.is c.requires.fits

pub run_three-requires-in-SwSwSw-clause-fits : goal.run_three-requires-in-SwSwSw-clause-fits
run_three-requires-in-SwSwSw-clause-fits g c = subst (Fits c.args.entries.now c.args.number.now) c.in-SwSwSw.is c.requires.fits

pub run_four-requires-in-SlliLbuLbuLbu-clause-fits : goal.run_four-requires-in-SlliLbuLbuLbu-clause-fits
run_four-requires-in-SlliLbuLbuLbu-clause-fits g c = subst (Fits c.args.entries.now c.args.number.now) c.in-SlliLbuLbuLbu.is c.requires.fits

pub run_two-requires-in-SlliSrli-clause-fits : goal.run_two-requires-in-SlliSrli-clause-fits
run_two-requires-in-SlliSrli-clause-fits g c = subst (Fits c.args.entries.now c.args.number.now) c.in-SlliSrli.is c.requires.fits

pub run_four-requires-in-BgeAddiSlliSub-clause-fits : goal.run_four-requires-in-BgeAddiSlliSub-clause-fits
run_four-requires-in-BgeAddiSlliSub-clause-fits g c = subst (Fits c.args.entries.now c.args.number.now) c.in-BgeAddiSlliSub.is c.requires.fits

pub run_four-requires-in-AddiBneLbuLbu-clause-fits : goal.run_four-requires-in-AddiBneLbuLbu-clause-fits
run_four-requires-in-AddiBneLbuLbu-clause-fits g c = subst (Fits c.args.entries.now c.args.number.now) c.in-AddiBneLbuLbu.is c.requires.fits

pub run_two-requires-in-SbSb-clause-fits : goal.run_two-requires-in-SbSb-clause-fits
run_two-requires-in-SbSb-clause-fits g c = subst (Fits c.args.entries.now c.args.number.now) c.in-SbSb.is c.requires.fits

pub run_two-requires-in-SlliAdd-clause-fits : goal.run_two-requires-in-SlliAdd-clause-fits
run_two-requires-in-SlliAdd-clause-fits g c = subst (Fits c.args.entries.now c.args.number.now) c.in-SlliAdd.is c.requires.fits

pub run_two-requires-in-OrOr-clause-fits : goal.run_two-requires-in-OrOr-clause-fits
run_two-requires-in-OrOr-clause-fits g c = subst (Fits c.args.entries.now c.args.number.now) c.in-OrOr.is c.requires.fits

pub run_three-requires-in-SrliOrOr-clause-fits : goal.run_three-requires-in-SrliOrOr-clause-fits
run_three-requires-in-SrliOrOr-clause-fits g c = subst (Fits c.args.entries.now c.args.number.now) c.in-SrliOrOr.is c.requires.fits

pub run_four-requires-in-SltSltSubJalr-clause-fits : goal.run_four-requires-in-SltSltSubJalr-clause-fits
run_four-requires-in-SltSltSubJalr-clause-fits g c = subst (Fits c.args.entries.now c.args.number.now) c.in-SltSltSubJalr.is c.requires.fits

pub run_three-requires-in-AddSwSw-clause-fits : goal.run_three-requires-in-AddSwSw-clause-fits
run_three-requires-in-AddSwSw-clause-fits g c = subst (Fits c.args.entries.now c.args.number.now) c.in-AddSwSw.is c.requires.fits

pub run_two-requires-in-XorXor-clause-fits : goal.run_two-requires-in-XorXor-clause-fits
run_two-requires-in-XorXor-clause-fits g c = subst (Fits c.args.entries.now c.args.number.now) c.in-XorXor.is c.requires.fits

pub run_three-requires-in-XorXorAdd-clause-fits : goal.run_three-requires-in-XorXorAdd-clause-fits
run_three-requires-in-XorXorAdd-clause-fits g c = subst (Fits c.args.entries.now c.args.number.now) c.in-XorXorAdd.is c.requires.fits

pub run_four-requires-in-AddiAddiAddiAddi-clause-fits : goal.run_four-requires-in-AddiAddiAddiAddi-clause-fits
run_four-requires-in-AddiAddiAddiAddi-clause-fits g c = subst (Fits c.args.entries.now c.args.number.now) c.in-AddiAddiAddiAddi.is c.requires.fits

pub run_two-requires-in-LwLw-clause-fits : goal.run_two-requires-in-LwLw-clause-fits
run_two-requires-in-LwLw-clause-fits g c = subst (Fits c.args.entries.now c.args.number.now) c.in-LwLw.is c.requires.fits

pub run_four-requires-in-XorSwAddiBne-clause-fits : goal.run_four-requires-in-XorSwAddiBne-clause-fits
run_four-requires-in-XorSwAddiBne-clause-fits g c = subst (Fits c.args.entries.now c.args.number.now) c.in-XorSwAddiBne.is c.requires.fits

pub run_four-requires-in-OrSlliOrSb-clause-fits : goal.run_four-requires-in-OrSlliOrSb-clause-fits
run_four-requires-in-OrSlliOrSb-clause-fits g c = subst (Fits c.args.entries.now c.args.number.now) c.in-OrSlliOrSb.is c.requires.fits

pub run_four-requires-in-SrliSrliSrliSb-clause-fits : goal.run_four-requires-in-SrliSrliSrliSb-clause-fits
run_four-requires-in-SrliSrliSrliSb-clause-fits g c = subst (Fits c.args.entries.now c.args.number.now) c.in-SrliSrliSrliSb.is c.requires.fits

pub run_four-requires-in-LwXorOrLw-clause-fits : goal.run_four-requires-in-LwXorOrLw-clause-fits
run_four-requires-in-LwXorOrLw-clause-fits g c = subst (Fits c.args.entries.now c.args.number.now) c.in-LwXorOrLw.is c.requires.fits

pub run_four-requires-in-XorLwAddXori-clause-fits : goal.run_four-requires-in-XorLwAddXori-clause-fits
run_four-requires-in-XorLwAddXori-clause-fits g c = subst (Fits c.args.entries.now c.args.number.now) c.in-XorLwAddXori.is c.requires.fits

pub run_four-requires-in-LwAddXoriAdd-clause-fits : goal.run_four-requires-in-LwAddXoriAdd-clause-fits
run_four-requires-in-LwAddXoriAdd-clause-fits g c = subst (Fits c.args.entries.now c.args.number.now) c.in-LwAddXoriAdd.is c.requires.fits

pub run_four-requires-in-XorAddOrAnd-clause-fits : goal.run_four-requires-in-XorAddOrAnd-clause-fits
run_four-requires-in-XorAddOrAnd-clause-fits g c = subst (Fits c.args.entries.now c.args.number.now) c.in-XorAddOrAnd.is c.requires.fits

pub run_four-requires-in-AddOrAndAnd-clause-fits : goal.run_four-requires-in-AddOrAndAnd-clause-fits
run_four-requires-in-AddOrAndAnd-clause-fits g c = subst (Fits c.args.entries.now c.args.number.now) c.in-AddOrAndAnd.is c.requires.fits

pub run_four-requires-in-BltuSlliAddLw-clause-fits : goal.run_four-requires-in-BltuSlliAddLw-clause-fits
run_four-requires-in-BltuSlliAddLw-clause-fits g c = subst (Fits c.args.entries.now c.args.number.now) c.in-BltuSlliAddLw.is c.requires.fits

pub run_four-requires-in-SlliAddLwJalr-clause-fits : goal.run_four-requires-in-SlliAddLwJalr-clause-fits
run_four-requires-in-SlliAddLwJalr-clause-fits g c = subst (Fits c.args.entries.now c.args.number.now) c.in-SlliAddLwJalr.is c.requires.fits

pub run_four-requires-in-BgeuSwSetLw-clause-fits : goal.run_four-requires-in-BgeuSwSetLw-clause-fits
run_four-requires-in-BgeuSwSetLw-clause-fits g c = subst (Fits c.args.entries.now c.args.number.now) c.in-BgeuSwSetLw.is c.requires.fits

pub run_three-requires-in-SlliSlliSrli-clause-fits : goal.run_three-requires-in-SlliSlliSrli-clause-fits
run_three-requires-in-SlliSlliSrli-clause-fits g c = subst (Fits c.args.entries.now c.args.number.now) c.in-SlliSlliSrli.is c.requires.fits

pub run_three-requires-in-AddiSlliAddi-clause-fits : goal.run_three-requires-in-AddiSlliAddi-clause-fits
run_three-requires-in-AddiSlliAddi-clause-fits g c = subst (Fits c.args.entries.now c.args.number.now) c.in-AddiSlliAddi.is c.requires.fits

pub run_three-requires-in-AddiSwSet-clause-fits : goal.run_three-requires-in-AddiSwSet-clause-fits
run_three-requires-in-AddiSwSet-clause-fits g c = subst (Fits c.args.entries.now c.args.number.now) c.in-AddiSwSet.is c.requires.fits

pub run_two-requires-in-SwSet-clause-fits : goal.run_two-requires-in-SwSet-clause-fits
run_two-requires-in-SwSet-clause-fits g c = subst (Fits c.args.entries.now c.args.number.now) c.in-SwSet.is c.requires.fits

pub run_four-requires-in-LwLbuBltuBgeu-clause-fits : goal.run_four-requires-in-LwLbuBltuBgeu-clause-fits
run_four-requires-in-LwLbuBltuBgeu-clause-fits g c = subst (Fits c.args.entries.now c.args.number.now) c.in-LwLbuBltuBgeu.is c.requires.fits

pub run_four-requires-in-AddiAndiAddiAddi-clause-fits : goal.run_four-requires-in-AddiAndiAddiAddi-clause-fits
run_four-requires-in-AddiAndiAddiAddi-clause-fits g c = subst (Fits c.args.entries.now c.args.number.now) c.in-AddiAndiAddiAddi.is c.requires.fits

pub run_four-requires-in-AddAddiAddSw-clause-fits : goal.run_four-requires-in-AddAddiAddSw-clause-fits
run_four-requires-in-AddAddiAddSw-clause-fits g c = subst (Fits c.args.entries.now c.args.number.now) c.in-AddAddiAddSw.is c.requires.fits

pub run_two-requires-in-SwAddi-clause-fits : goal.run_two-requires-in-SwAddi-clause-fits
run_two-requires-in-SwAddi-clause-fits g c = subst (Fits c.args.entries.now c.args.number.now) c.in-SwAddi.is c.requires.fits

pub run_four-requires-in-AddiAddiBneAddi-clause-fits : goal.run_four-requires-in-AddiAddiBneAddi-clause-fits
run_four-requires-in-AddiAddiBneAddi-clause-fits g c = subst (Fits c.args.entries.now c.args.number.now) c.in-AddiAddiBneAddi.is c.requires.fits

pub run_four-requires-in-BneAddiLwLw-clause-fits : goal.run_four-requires-in-BneAddiLwLw-clause-fits
run_four-requires-in-BneAddiLwLw-clause-fits g c = subst (Fits c.args.entries.now c.args.number.now) c.in-BneAddiLwLw.is c.requires.fits

pub run_four-requires-in-LwLwLwAnd-clause-fits : goal.run_four-requires-in-LwLwLwAnd-clause-fits
run_four-requires-in-LwLwLwAnd-clause-fits g c = subst (Fits c.args.entries.now c.args.number.now) c.in-LwLwLwAnd.is c.requires.fits

pub run_four-requires-in-AndXorSlliSrli-clause-fits : goal.run_four-requires-in-AndXorSlliSrli-clause-fits
run_four-requires-in-AndXorSlliSrli-clause-fits g c = subst (Fits c.args.entries.now c.args.number.now) c.in-AndXorSlliSrli.is c.requires.fits

pub run_four-requires-in-XorSlliSrliXor-clause-fits : goal.run_four-requires-in-XorSlliSrliXor-clause-fits
run_four-requires-in-XorSlliSrliXor-clause-fits g c = subst (Fits c.args.entries.now c.args.number.now) c.in-XorSlliSrliXor.is c.requires.fits

pub run_four-requires-in-LbuBeqAddiBeq-clause-fits : goal.run_four-requires-in-LbuBeqAddiBeq-clause-fits
run_four-requires-in-LbuBeqAddiBeq-clause-fits g c = subst (Fits c.args.entries.now c.args.number.now) c.in-LbuBeqAddiBeq.is c.requires.fits

pub run_two-requires-in-AddiLw-clause-fits : goal.run_two-requires-in-AddiLw-clause-fits
run_two-requires-in-AddiLw-clause-fits g c = subst (Fits c.args.entries.now c.args.number.now) c.in-AddiLw.is c.requires.fits

pub run_four-requires-in-LbuLbuBeqSub-clause-fits : goal.run_four-requires-in-LbuLbuBeqSub-clause-fits
run_four-requires-in-LbuLbuBeqSub-clause-fits g c = subst (Fits c.args.entries.now c.args.number.now) c.in-LbuLbuBeqSub.is c.requires.fits

pub run_four-requires-in-LbuBeqSubJalr-clause-fits : goal.run_four-requires-in-LbuBeqSubJalr-clause-fits
run_four-requires-in-LbuBeqSubJalr-clause-fits g c = subst (Fits c.args.entries.now c.args.number.now) c.in-LbuBeqSubJalr.is c.requires.fits
