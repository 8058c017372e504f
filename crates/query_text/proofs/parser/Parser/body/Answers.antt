use Rattle.std.proofs.Common.{sym, subst, ◌∙◌}
use Rattle.query_tokens.specs.Token.{Token, is_keyword, is_sign}
use Rattle.query_tokens.specs.declared.keyword.Keyword.TheVariants as word
use Rattle.query_tokens.specs.declared.sign.Sign.TheVariants as sign_of
use Rattle.query_text.specs.declared.statement.Body.{Body}
use Rattle.query_text.specs.Reading.{Read}
use Rattle.query_text.specs.Forms.{behind, relation_at, output_at, name_at, node_at, body_of}
use Rattle.query_text.specs.Answers.{Gives}
use Rattle.query_text.proofs.NamedLine.{third_choice}
use Rattle.query_text.proofs.parser.Parser.body.Goals as goal

pub returns : goal.returns
returns c =
    let whole = third_choice (is_keyword word.Relation) (is_keyword word.Output) (is_sign sign_of.Assign) (behind word.Relation relation_at) (behind word.Output output_at) name_at node_at body_of
    c.args.self.now c.in_ok-name.name c.name.new.self c.sign.new.self (sym c.at_keyword.ensures ∙ c.if-at_keyword.false) (sym c.at_keyword-2.ensures ∙ c.if-at_keyword-2.false) c.in_ok-name.ensures c.in_ok-sign.ensures in
    subst (λ (r : Read Token Body). Gives (λ (b : Body). b) c.node.result c.node.new.self r) (sym whole) c.node.ensures
