-- `of` makes the empty struct, with what its clause names.
use mir.Syntax.{a_type, dcons, dnil, named}
use mir.Val.{Val, vptr, vstruct, vnil}
use mir.MapTy.{inst_fn}
use prog.Wp.{WpFn}
use sound.WpLaws.{WpFn-mono}
use types.Kit.{‵, raw, ◌⊛◌, ◌$◌, ◌∵◌, !, qed, move, keep, split, suffices, done}
use types.Run.{no_more, returns, enter}
use types.Part.{agg}
use types.ByLocal.{alloc_all, pass_all, free_all, look_at, sets}
use contract.Running.{tables, tables_of}
use denote.Exit.{yes}
use denote.RattleType.{owns}
use denote.Ref.{shr_vals, shr_Tells}
use denote.Shadow.{pure_i}
use denote.Signature.{plain, types_at}
use denote.Param.{param, bounded}
use denote.Triple.Entry.{alive}
use denote.Triple.Clauses.{closing}
use denote.Triple.Spec.{triple_of}
use denote.Triple.Table.{entered}
use denote.Triple.Walked.{says, stay_none_ref, Stays, walk_of, ends_at, walked, Goes-none_ref, walk_Meets}
use Rattle.session_state.proofs.Terms.{[], refl, ◌∷◌}
use Rattle.session_state.specs.contracts.remembering.Past as past
use Rattle.session_state.specs.contracts.remembering.Past.of.{ended, clauses}
use Rattle.session_state.specs.contracts.remembering.Past.of.Key.{name as key}
use Rattle.session_state.proofs.remembering.Past.of.Statement.{statement}
use Rattle.session_state.proofs.remembering.Past.of.Code as code

pub of_spec : {M : Type 1} → statement M
unfolding tables_of
of_spec 𝓤 𝓛 𝓜 𝓡 wired X LX g d _ =
    let H = 𝓛.H in
    let 𝓣 = tables_of 𝓤 H 𝓜 (tables 𝓤 H 𝓜 𝓡 𝓡.env) in
    let T = ended X g d in
    let hs : Stays T.signature.params T.kept = (stay_none_ref (0 ∷ []) tt (plain (λ _. param 0 X)) yes, tt) in
    let inst = bounded (a_type ∷ []) (X, tt) (dcons d dnil) in
    let fn = inst_fn inst code.function in
    let c = clauses X g d 𝓛 𝓜.mem 𝓡.returns in
    entered 𝓤 H (triple_of 𝓛 T.signature (closing 𝓛 T c)) 𝓣.C 𝓣.Λ (key inst) fn (code.unfolded 𝓤 H 𝓜 𝓡 wired (X, tt) d)
    (walk_Meets 𝓛 T hs (Goes-none_ref 𝓛 2 (0 ∷ []) tt (plain (λ _. param 0 X)) yes, tt) c (WpFn 𝓤 H 𝓣.C 𝓣.Λ fn)
    (WpFn-mono 𝓤 H 𝓛.laws 𝓣 fn)
    (walked 𝓛 T hs c (WpFn 𝓤 H 𝓣.C 𝓣.Λ fn) (λ κs. (shr_vals, tt)) (λ κs. (shr_Tells (named 0) κs.0 (param 0 X), tt))
    (λ κs qs bounds a gh are.
    let p : Val = vptr a.0.ref_ptr.0 a.0.ref_ptr.1 in
    let y : (walk_of 𝓛 T hs c).Ghost = ((κs, qs, bounds, a, (p ∷ [], tt)), gh) in
    let made : (past.the_row).Denot = record { before = g.before a.0.now } in
    qed 𝓛 ((raw (alive 𝓛 T.signature κs qs) ⊛ ‵ (owns (types_at T.signature.params κs) a (p ∷ [], tt))) ∷ raw ((c κs a).requires gh) ∷ []) ∵
    split ! $ keep ! (0 ∷ 1 ∷ []) $ enter ! 𝓣.C 𝓣.Λ fn (p ∷ []) _ $
    alloc_all ! (λ l. pass_all ! refl ((tt, tt), tt) $ sets ! (agg ! (no_more !)) refl (tt, tt) $
    returns ! (look_at ! 0 refl) $ free_all ! refl $
    suffices ! _ (ends_at 𝓛 T hs c y (vstruct vnil) made (tt, tt) (tt, tt)) $
    says ! refl $ pure_i ! (past.the_row.own_val made (vstruct vnil ∷ [])) ((λ vss. (tt, tt)), tt) ((tt, (refl, tt)), tt) $
    move ! (1 ∷ 2 ∷ 0 ∷ []) $ done !))))
