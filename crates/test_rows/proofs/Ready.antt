-- A session that was begun is ready to serve.
use Rattle.std.proofs.Common.{sym, subst}
use Rattle.guest_image.specs.declared.image.Image.{Image}
use Rattle.session_state.specs.declared.options.Options.{Options}
use Rattle.session_state.specs.Sessions.{SessionState, IsBegun}
use Rattle.session_state.specs.Serving.{IsReadyToServe}

module _ {R : Type 0} where
  pub ready : (image : Image) (options : Options) (rule : R) (session : SessionState R) → IsBegun image options rule session → IsReadyToServe session
  ready image options rule session begun = record {
    image = image;
    begun = subst (λ o. IsBegun image o session.cpu.rule session) (sym begun.options_are) (subst (λ r. IsBegun image options r session) (sym begun.cpu.rule_is) begun);
  }
