use Rattle.std.proofs.Common.{◌≡◌, ◌∙◌, List, ap, sym, subst}
use Rattle.std.specs.Prelude.{IfOk}
use Rattle.gopass_base.specs.Text.{Text}
use Rattle.listing_texts.specs.Lines.{on_lines}
use Rattle.text_search.specs.Search.{names_with}
use Rattle.store_core.specs.Show.{names_of}
use Rattle.store_state.proofs.AgreeLemmas.{keys_agree}
use Rattle.gopass_cli.proofs.listing.find.Goals as goal

pub returns-in-Ok : goal.returns-in-Ok
returns-in-Ok g c = record {
  lists = λ told opens state s. (
      let self = c.args.store.now in
      let keys = keys_agree opens self.vault.root (g.D.Disk.meaning.view self.vault.disk).files self.found state (self.agrees c.requires.free told) s in
      let names = c.deref.ensures.value ∙ (c.in-Ok.ensures ∙ ap (names_with c.args.text.now) (c.names.ensures ∙ sym keys)) in
      c.print_hits.ensures.says (on_lines (names_with c.args.text.now (names_of state))) (subst (λ (texts : List Text). IfOk c.on_lines.result (λ lines. lines.items ≡ on_lines texts)) names c.on_lines.ensures));
  own = c.print_hits.ensures.own;
  about = c.print_hits.ensures.about;
}
