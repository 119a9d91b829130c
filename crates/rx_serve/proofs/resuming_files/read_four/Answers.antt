use Rattle.rx_serve.proofs.Lemmas.{no_adopted}
use Rattle.rx_serve.proofs.Terms.{List, subst, ℕ, IsHanded, four_in, handed_shown}
use Rattle.rx_serve.proofs.resuming_files.read_four.Goals as goal

pub returns-in-Err-read_adopted : goal.returns-in-Err-read_adopted
returns-in-Err-read_adopted c =
    no_adopted (four_in c.args.files.now) (handed_shown c.in-Ok.handed) c.as_slice-2.result.now c.in-Err-read_adopted.answer c.as_slice-2.ensures.value
    (subst (λ (text : List ℕ). IsHanded text (handed_shown c.in-Ok.handed)) c.as_slice.ensures.value c.in-Ok.ensures) c.in-Err-read_adopted.ensures
