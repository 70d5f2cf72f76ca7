use Rattle.std.proofs.Common.{◌≤◌, length, ap, ◌∙◌, arith}
use Rattle.hex.specs.Hex.{IsBytes}
use Rattle.cipher_port.specs.Tool.{made_of}
use Rattle.cipher_port.specs.StandinText.{standin_text}
use Rattle.cipher_port.specs.StandinLaws.{text_short}
use Rattle.cipher_port.proofs.StandinAgain.{content_again}
use Rattle.cipher_port.proofs.standin.standin_write.Goals as goal

pub returns-clause-again : goal.returns-clause-again
returns-clause-again c =
    let bytes : IsBytes c.args.body.now = λ i. (let fits = c.type_inv.body i in omega (arith, fits)) in
    content_again (made_of c.args.to.now c.args.body.now) c.in_ok-text.text.items (record {
      to = c.ids.ensures.good;
      body = c.requires;
      each = bytes;
      text = c.in_ok-text.ensures ∙ ap (λ ids. standin_text (made_of ids c.args.body.now)) c.ids.ensures.ids;
    })

pub returns-clause-bound : goal.returns-clause-bound
returns-clause-bound c =
    let bytes : IsBytes c.args.body.now = λ i. (let fits = c.type_inv.body i in omega (arith, fits)) in
    let short : length c.in_ok-text.text.items ≤ 78619 = text_short c.in_ok-text.text.items (made_of c.args.to.now c.args.body.now) (record {
      to = c.ids.ensures.good;
      body = c.requires;
      each = bytes;
      text = c.in_ok-text.ensures ∙ ap (λ ids. standin_text (made_of ids c.args.body.now)) c.ids.ensures.ids;
    }) in
    omega (arith, short)
