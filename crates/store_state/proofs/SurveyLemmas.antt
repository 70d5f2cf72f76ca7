-- Mount by mount: what was found, and how many files each has.
use Rattle.std.proofs.Common.{◌≡◌, inl, inr, ℕ, ◌+◌, ◌<◌, List, [], ◌∷◌, ◌++◌, length, get_or, Err, ap, sym, ◌∙◌, subst, arith}
use Rattle.std.specs.Prelude.{Contains}
use Rattle.std.proofs.lemmas.Bool.{cases_lt}
use Rattle.std.proofs.lemmas.List.{get_or_at, get_or_append_left}
use Rattle.gopass_base.specs.Text.{Text}
use Rattle.mount_table.specs.Mounts.{row_at}
use Rattle.mount_table.specs.declared.mounts.Row.{Row}
use Rattle.disk_model.specs.Files.{Files}
use Rattle.disk_model.specs.Listing.{LiesIn, IsThere}
use Rattle.pending_journal.specs.Opened.{OnlyReads}
use Rattle.disk_model.specs.declared.disk.Disk.{Ghosts}
use Rattle.pending_journal.specs.declared.vault.Vault.{Vault}
use Rattle.store_state.specs.declared.kind.Kind.{Kind}
use Rattle.disk_model.proofs.RunLemmas.{rests_then}
use Rattle.store_state.specs.declared.seen.Seen.{Seen}
use Rattle.store_state.specs.declared.fault.StoreFault.{StoreFault}
use Rattle.store_state.specs.declared.fault.StoreFault.TheVariants.{BadFile, Full, Disk, NoMemory}
use Rattle.store_state.specs.declared.fault.Limit.TheVariants as limit
use Rattle.store_state.specs.Faults.{GivesOrFull}
use Rattle.store_state.specs.Found.{LiesAs, HasMore, GivesName, GivesRule, GivesTemplate, GivesStrange, GivesShadowed}
use Rattle.store_state.specs.Tree.{IsTree, IsFullTree, tree_files}
use Rattle.store_state.specs.Survey.{IsMountSeen, IsOfFiles, IsSeen, IsCountOf, IsFullMount}

pub kept_then : {D : Type 0} {G : Ghosts D} (a b c : Vault D G) → OnlyReads a b → OnlyReads b c → OnlyReads a c
kept_then {G = G} a b c h k = record {
  root = k.root ∙ h.root;
  commits = k.commits ∙ h.commits;
  stuck = k.stuck ∙ h.stuck;
  rests = λ told. rests_then (G.meaning.view a.disk) (G.meaning.view b.disk) (G.meaning.view c.disk) (h.rests told) (k.rests told);
}

-- ---- one mount more

module _ (Gives : Kind → Text → Text → Type 0) (root : Text) (files : Files) (mounts : List Row) where
  pub none_of_files : (list : List Text) → list ≡ [] → IsOfFiles Gives root files mounts 0 list
  none_of_files list is x = (
    λ (k, lt, at). absurd (omega (arith, lt, ap length is)),
    λ (k, path, kind, lt, inside, there, lies, gives). absurd (omega (arith, lt)),
  )

  one_more : (n m : ℕ) (paths old new : List Text) → m ≡ n + 1 → IsOfFiles Gives root files mounts n old → IsTree root files (row_at mounts n).dir paths → HasMore Gives mounts n paths old new → IsOfFiles Gives root files mounts m new
  one_more n m paths old new next so_far tree more x = (to, from)
    where
      to : Contains new x → (k : ℕ) × (path : Text) × (kind : Kind) × (k < m) × LiesIn (row_at mounts k).dir path × IsThere (tree_files root files) path × LiesAs mounts k kind path × Gives kind path x
      to has = elim ((more x).0 has) [
        | inl was ↦ (let (k, path, kind, lt, inside, there, lies, gives) = (so_far x).0 was in (k, path, kind, omega (arith, lt, next), inside, there, lies, gives))
        | inr (path, kind, listed, lies, gives) ↦ (let there = (tree.listing.each path).0 listed in (n, path, kind, omega (arith, next), there.0, there.1, lies, gives))
      ]

      from : ((k : ℕ) × (path : Text) × (kind : Kind) × (k < m) × LiesIn (row_at mounts k).dir path × IsThere (tree_files root files) path × LiesAs mounts k kind path × Gives kind path x) → Contains new x
      from (k, path, kind, lt, inside, there, lies, gives) = elim (cases_lt k n) [
        | inl before ↦ (more x).1 (inl ((so_far x).1 (k, path, kind, before, inside, there, lies, gives)))
        | inr behind ↦ (let same : k ≡ n = omega (arith, lt, behind, next) in
            (more x).1 (inr (path, kind, (tree.listing.each path).1 (subst (λ j. LiesIn (row_at mounts j).dir path) same inside, there), subst (λ j. LiesAs mounts j kind path) same lies, gives)))
      ]

pub seen_more : (root : Text) (files : Files) (mounts : List Row) (n m count : ℕ) (old new : Seen) → m ≡ n + 1 → IsSeen root files mounts n old → IsMountSeen root files mounts n old new count → IsSeen root files mounts m new
seen_more root files mounts n m count old new next so_far (paths, tree, grown, many) = record {
  names = one_more GivesName root files mounts n m paths old.names.items new.names.items next so_far.names tree grown.names;
  rules = one_more GivesRule root files mounts n m paths old.rules.items new.rules.items next so_far.rules tree grown.rules;
  templates = one_more GivesTemplate root files mounts n m paths old.templates.items new.templates.items next so_far.templates tree grown.templates;
  strange = one_more GivesStrange root files mounts n m paths old.strange.items new.strange.items next so_far.strange tree grown.strange;
  shadowed = one_more GivesShadowed root files mounts n m paths old.shadowed.items new.shadowed.items next so_far.shadowed tree grown.shadowed;
}

pub counts_more : (root : Text) (files : Files) (mounts : List Row) (n m count : ℕ) (old new : Seen) (counts now : List ℕ) → m ≡ n + 1 → length counts ≡ n → now ≡ counts ++ count ∷ [] → IsMountSeen root files mounts n old new count
    → ((k : ℕ) → k < n → IsCountOf root files mounts k (get_or counts k 0)) → (k : ℕ) → k < m → IsCountOf root files mounts k (get_or now k 0)
counts_more root files mounts n m count old new counts now next many is (paths, tree, grown, all) so_far k lt = elim (cases_lt k n) [
  | inl before ↦ subst (λ c. IsCountOf root files mounts k c) (sym (ap (λ l. get_or l k 0) is ∙ get_or_append_left counts (count ∷ []) 0 k (omega (arith, before, many)))) (so_far k before)
  | inr behind ↦ (let same : k ≡ n = omega (arith, lt, behind, next) in
      let at : get_or now k 0 ≡ count = ap (λ l. get_or l k 0) is ∙ get_or_at counts count [] 0 k (omega (arith, same, many)) in
      subst (λ c. IsCountOf root files mounts k c) (sym at) (paths, subst (λ j. IsTree root files (row_at mounts j).dir paths) (sym same) tree, all))
]

-- ---- a fault

pub lists_fault : {X Y : Type 0} (Is : X → Type 0) (Also : Y → Type 0) (P Q : Type 0) (fault : StoreFault) → (P → Q) → GivesOrFull Is P (Err fault) → GivesOrFull Also Q (Err fault)
lists_fault Is Also P Q (Full limit.Files) f h = f h
lists_fault Is Also P Q Disk f h = tt
lists_fault Is Also P Q NoMemory f h = tt
lists_fault Is Also P Q (BadFile path line) f h = h
lists_fault Is Also P Q (Full limit.Mounts) f h = h
lists_fault Is Also P Q (Full limit.Rules) f h = h
lists_fault Is Also P Q (Full limit.Ids) f h = h
lists_fault Is Also P Q (Full limit.Secrets) f h = h
lists_fault Is Also P Q (Full limit.Body) f h = h
lists_fault Is Also P Q (Full limit.Changes) f h = h
lists_fault Is Also P Q (Full limit.Counter) f h = h

-- a mount has too many files, and none before it has
pub full_there : (root : Text) (files : Files) (mounts : List Row) (n : ℕ) (counts : List ℕ) → n < length mounts → IsFullTree root files (row_at mounts n).dir → ((k : ℕ) → k < n → IsCountOf root files mounts k (get_or counts k 0)) → IsFullMount root files mounts
full_there root files mounts n counts inside full before = record { row = n; inside = inside; full = full; before = λ k lt. (get_or counts k 0, before k lt) }
