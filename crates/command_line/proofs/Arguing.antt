-- clap's rule of an option, as its argument is set step by step.
use Rattle.clap.specs.Words.{Text}
use Rattle.clap.specs.declared.builder.arg.Arg.{Arg}
use Rattle.command_line.proofs.Terms.{Bor, None, Option, Some, [], ap, sym, ◌∙◌, ◌∷◌, ◌≡◌, option_map_or, Rule, new_rule, rule_of, Takes, option_rule}

-- b is a with its id as its long name
pub named_rule : (a b : Arg) (name : Bor Text) (takes : Takes) (default : Option Text) → rule_of a ≡ new_rule name.now → b ≡ record a { long = Some name } → default ≡ None
    → rule_of b ≡ option_rule (record { name = name.now; takes = takes; default = default; says = tt })
named_rule a b name takes default new named none =
    ap rule_of named
    ∙ ap {B = Rule} (λ r. record r { long = Some name.now }) new
    ∙ ap {B = Rule} (λ d. record (new_rule name.now) { long = Some name.now; defaults = option_map_or (λ (t : Text). t ∷ []) d [] }) (sym none)

-- and c is b with a default
pub default_rule : (a b c : Arg) (name : Bor Text) (text : Text) (takes : Takes) (default : Option Text) → rule_of a ≡ new_rule name.now → b ≡ record a { long = Some name }
    → rule_of c ≡ record (rule_of b) { defaults = text ∷ [] } → default ≡ Some text → rule_of c ≡ option_rule (record { name = name.now; takes = takes; default = default; says = tt })
default_rule a b c name text takes default new named set some =
    set
    ∙ ap {B = Rule} (λ x. record (rule_of x) { defaults = text ∷ [] }) named
    ∙ ap {B = Rule} (λ r. record r { long = Some name.now; defaults = text ∷ [] }) new
    ∙ ap {B = Rule} (λ d. record (new_rule name.now) { long = Some name.now; defaults = option_map_or (λ (t : Text). t ∷ []) d [] }) (sym some)
