use Rattle.std.proofs.Common.{◌≡◌, ◌<◌, ◌∙◌, ℕ, List, Vec, Global, None, length, get_or, ap, sym, subst}
use Rattle.gopass_base.specs.Text.{Text}
use Rattle.disk_model.specs.Entries.{entries_of, files_of}
use Rattle.disk_model.proofs.ActLemmas.{none_taken, taken_out}
use Rattle.disk_model.proofs.entries.take_file.Goals as goal

abbrev Held : Type 0
Held = List (Text × Vec ℕ Global)

pub returns-in-None-clause-taken : goal.returns-in-None-clause-taken
returns-in-None-clause-taken c =
    let none = subst (λ (fs : Held). files_of (entries_of fs) c.args.path.now ≡ None) c.deref.ensures.value c.in-None.ensures in
    sym (none_taken c.args.path.now (entries_of c.args.files.now.items) none)

pub returns-in-Some-clause-taken : goal.returns-in-Some-clause-taken
returns-in-Some-clause-taken c =
    let at = c.in-Some.at in
    let same = subst (λ (fs : Held). (d : Text × Vec ℕ Global) → (get_or fs at d).0 ≡ c.args.path.now) c.deref.ensures.value c.in-Some.ensures.2 in
    let within = subst (λ (fs : Held). at < length fs) c.deref.ensures.value c.in-Some.ensures.0 in
    ap entries_of c.remove-bytes.ensures.items ∙ taken_out c.args.path.now c.args.files.now.items at c.requires within same
