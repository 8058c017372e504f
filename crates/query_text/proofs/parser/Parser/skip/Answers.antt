use Rattle.std.proofs.Common.{ℕ, ap, ◌∙◌}
use Rattle.query_tokens.specs.Token.{Token}
use Rattle.query_text.specs.Reading.{rest_of}
use Rattle.query_text.proofs.Left.{map-drop-more}
use Rattle.query_text.proofs.parser.Parser.skip.Goals as goal

pub returns-then-self : goal.returns-then-self
returns-then-self c = map-drop-more (λ (t : Token × ℕ). t.0) c.self.inside.next c.self.inside.tokens.now ∙ ap rest_of c.self.view_is
