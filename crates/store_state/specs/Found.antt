-- What is found below the mounts of a store.
use Rattle.std.specs.Prelude.{◌≡◌, ◌⊎◌, ◌↔◌, ℕ, List, [], ◌∷◌, ◌++◌, Contains}
use Rattle.gopass_base.specs.Text.{Text}
use Rattle.gopass_base.specs.Paths.{path_in}
use Rattle.mount_table.specs.Mounts.{row_at}
use Rattle.mount_table.specs.declared.mounts.Row.{Row}
use Rattle.store_state.specs.declared.kind.Kind.{Kind}
use Rattle.store_state.specs.declared.kind.Kind.TheVariants.{Secret, Rule, Template, Shadowed, Strange}
use Rattle.store_state.specs.declared.seen.Seen.{Seen}
use Rattle.store_state.specs.Places.{IsKind}

-- at the path something of this kind lies below the k-th mount
abbrev pub LiesAs : List Row → ℕ → Kind → Text → Type 0
LiesAs mounts k kind path = (rest : Text) × (path ≡ path_in (row_at mounts k).dir rest) × IsKind mounts k rest kind

-- what a path of a kind gives: the name of a secret, the folder of a rule or a template, or itself where it is strange or
-- shadowed
abbrev pub GivesName : Kind → (path name : Text) → Type 0
GivesName kind path name = kind ≡ Secret name

abbrev pub GivesRule : Kind → (path folder : Text) → Type 0
GivesRule kind path folder = kind ≡ Rule folder

abbrev pub GivesTemplate : Kind → (path folder : Text) → Type 0
GivesTemplate kind path folder = kind ≡ Template folder

abbrev pub GivesStrange : Kind → (path strange : Text) → Type 0
GivesStrange kind path strange = (kind ≡ Strange) × (path ≡ strange)

abbrev pub GivesShadowed : Kind → (path shadowed : Text) → Type 0
GivesShadowed kind path shadowed = (kind ≡ Shadowed) × (path ≡ shadowed)

-- the same lists
pub record IsSameSeen (old new : Seen) : Type 0 where
  pub names : new.names.items ≡ old.names.items
  pub rules : new.rules.items ≡ old.rules.items
  pub templates : new.templates.items ≡ old.templates.items
  pub strange : new.strange.items ≡ old.strange.items
  pub shadowed : new.shadowed.items ≡ old.shadowed.items

-- ---- what one path adds

abbrev pub name_in : Kind → List Text
name_in (Secret name) = name ∷ []
name_in _ = []

abbrev pub rule_in : Kind → List Text
rule_in (Rule folder) = folder ∷ []
rule_in _ = []

abbrev pub template_in : Kind → List Text
template_in (Template folder) = folder ∷ []
template_in _ = []

abbrev pub strange_in : Kind → Text → List Text
strange_in Strange path = path ∷ []
strange_in _ path = []

abbrev pub shadowed_in : Kind → Text → List Text
shadowed_in Shadowed path = path ∷ []
shadowed_in _ path = []

pub record IsWith (old new : Seen) (kind : Kind) (path : Text) : Type 0 where
  pub names : new.names.items ≡ old.names.items ++ name_in kind
  pub rules : new.rules.items ≡ old.rules.items ++ rule_in kind
  pub templates : new.templates.items ≡ old.templates.items ++ template_in kind
  pub strange : new.strange.items ≡ old.strange.items ++ strange_in kind path
  pub shadowed : new.shadowed.items ≡ old.shadowed.items ++ shadowed_in kind path

-- ---- what the paths of a mount add

-- the new list has what the old one has, and what these paths below the k-th mount give
abbrev pub HasMore : (Kind → Text → Text → Type 0) → List Row → ℕ → List Text → (old new : List Text) → Type 0
HasMore Gives mounts k paths old new =
    (x : Text) → Contains new x ↔ (Contains old x ⊎ ((path : Text) × (kind : Kind) × Contains paths path × LiesAs mounts k kind path × Gives kind path x))

pub record AddsPaths (mounts : List Row) (k : ℕ) (paths : List Text) (old new : Seen) : Type 0 where
  pub names : HasMore GivesName mounts k paths old.names.items new.names.items
  pub rules : HasMore GivesRule mounts k paths old.rules.items new.rules.items
  pub templates : HasMore GivesTemplate mounts k paths old.templates.items new.templates.items
  pub strange : HasMore GivesStrange mounts k paths old.strange.items new.strange.items
  pub shadowed : HasMore GivesShadowed mounts k paths old.shadowed.items new.shadowed.items

-- the path lies below the directory of the k-th mount; and so does each of these
abbrev pub LiesBelow : List Row → ℕ → Text → Type 0
LiesBelow mounts k path = (rest : Text) × (path ≡ path_in (row_at mounts k).dir rest)

abbrev pub AllLieBelow : List Row → ℕ → List Text → Type 0
AllLieBelow mounts k paths = (path : Text) → Contains paths path → LiesBelow mounts k path
