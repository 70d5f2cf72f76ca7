use Rattle.std.proofs.Common.{◌≡◌, ◌∙◌, sym, subst}
use Rattle.std.specs.Prelude.{IfOk}
use Rattle.path_rules.specs.RuleMap.{RuleMap}
use Rattle.listing_texts.specs.RuleLines.{recipients_listing}
use Rattle.store_state.proofs.AgreeLemmas.{rules_agree}
use Rattle.gopass_cli.proofs.listing.recipients.Goals as goal

pub returns : goal.returns
returns g c = record {
  lists = λ told opens state s. (
      let self = c.args.store.now in
      let own = rules_agree opens self.vault.root (g.D.Disk.meaning.view self.vault.disk).files self.found state (self.agrees c.requires.free told) s in
      c.print_text.ensures.says (recipients_listing state.rules) (subst (λ (rules : RuleMap). IfOk c.recipients_text.result (λ text. text.items ≡ recipients_listing rules)) (c.rules.ensures ∙ sym own) c.recipients_text.ensures));
  own = c.print_text.ensures.own;
  about = c.print_text.ensures.about;
}
