use Rattle.std.proofs.Common.{◌≡◌, ◌∙◌, sym}
use Rattle.std.specs.Prelude.{Some}
use Rattle.cipher_port.specs.StandinLaws.{standin_says}
use Rattle.cipher_port.proofs.StandinAgain.{content_again}
use Rattle.cipher_port.proofs.standin.standin_texts.Goals as goal

pub returns-clause-exact : goal.returns-clause-exact
returns-clause-exact g = λ c bytes. (content_again c bytes, standin_says bytes c)

pub returns-clause-one_content : goal.returns-clause-one_content
returns-clause-one_content g = λ c d bytes is also.
    let same : Some c ≡ Some d = sym (content_again c bytes is) ∙ content_again d bytes also in
    cc
