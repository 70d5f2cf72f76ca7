use Rattle.std.proofs.Common.{◌≡◌, ◌∙◌, List, sym, subst}
use Rattle.std.specs.Prelude.{IfOk}
use Rattle.mount_table.specs.declared.mounts.Row.{Row}
use Rattle.listing_texts.specs.MountLines.{mounts_listing}
use Rattle.store_state.proofs.AgreeLemmas.{mounts_agree}
use Rattle.gopass_cli.proofs.listing.mounts.Goals as goal

pub returns : goal.returns
returns g c = record {
  lists = λ told opens state s. (
      let self = c.args.store.now in
      let own = mounts_agree opens self.vault.root (g.D.Disk.meaning.view self.vault.disk).files self.found state (self.agrees c.requires.free told) s in
      c.print_text.ensures.says (mounts_listing state.mounts) (subst (λ (rows : List Row). IfOk c.mounts_text.result (λ text. text.items ≡ mounts_listing rows)) (c.mounts.ensures ∙ sym own) c.mounts_text.ensures));
  own = c.print_text.ensures.own;
  about = c.print_text.ensures.about;
}
