-- What the parts of a commit come to.
use Rattle.std.specs.Prelude.{◌≡◌, ◌≢◌, ◌⊎◌, ℕ, ◌<◌, false, List, length, get_or, None, Some}
use Rattle.gopass_base.specs.Text.{Text, is_among}
use Rattle.disk_model.specs.Files.{Files}
use Rattle.pending_journal.specs.Service.{without_service, journal_path}
use Rattle.pending_journal.specs.Journal.{JournalPlan}
use Rattle.pending_journal.specs.Redo.{redone}
use Rattle.pending_journal.specs.declared.put.Put.{Put}
use Rattle.pending_journal.specs.declared.change.Change.{Change}

-- only files of the vault's own differ, and not the journal
pub record IsUnseen (root : Text) (m n : Files) : Type 0 where
  pub journal : n (journal_path root) ≡ m (journal_path root)
  pub plain : without_service root n ≡ without_service root m

-- what the plan makes of the files is the same, and so is the journal
pub record IsOfPlan (root : Text) (plan : JournalPlan) (m n : Files) : Type 0 where
  pub journal : n (journal_path root) ≡ m (journal_path root)
  pub redone : redone root plan n ≡ redone root plan m

-- only these paths may differ
abbrev pub IsSameBut : List Text → Files → Files → Type 0
IsSameBut paths m n = (q : Text) → is_among paths q ≡ false → n q ≡ m q

-- one of the two
abbrev pub IsEither : Files → Files → Files → Type 0
IsEither a b m = (m ≡ a) ⊎ (m ≡ b)

-- no put is staged there
abbrev pub IsNoStage : Change → Text → Type 0
IsNoStage change q = (j : ℕ) (d : Put) → j < length change.puts.items → (get_or change.puts.items j d).staged ≢ q

-- no put is for this path
abbrev pub IsNoPut : Change → Text → Type 0
IsNoPut change q = (j : ℕ) (d : Put) → j < length change.puts.items → (get_or change.puts.items j d).path ≢ q

-- the first n puts are staged, and every path that is no stage is as before
pub record IsStaged (change : Change) (n : ℕ) (before files : Files) : Type 0 where
  pub those : (j : ℕ) (d : Put) → j < n → files (get_or change.puts.items j d).staged ≡ Some (get_or change.puts.items j d).bytes.items
  pub rest : (q : Text) → IsNoStage change q → files q ≡ before q

-- the stages of the first n puts are gone, no file has come but at their paths, and every other path is as before
pub record IsFetched (change : Change) (n : ℕ) (before files : Files) : Type 0 where
  pub gone : (j : ℕ) (d : Put) → j < n → files (get_or change.puts.items j d).staged ≡ None
  pub none : (q : Text) → IsNoPut change q → before q ≡ None → files q ≡ None
  pub rest : (q : Text) → IsNoPut change q → IsNoStage change q → files q ≡ before q

-- the first n of these paths are gone, no file has come, and every other path is as before
pub record IsRemoved (paths : List Text) (n : ℕ) (before files : Files) : Type 0 where
  pub gone : (j : ℕ) (d : Text) → j < n → files (get_or paths j d) ≡ None
  pub none : (q : Text) → before q ≡ None → files q ≡ None
  pub rest : (q : Text) → is_among paths q ≡ false → files q ≡ before q

-- every put is staged, the journal stands under its first name, and all else is as before
pub record IsReady (change : Change) (before files : Files) : Type 0 where
  pub those : (j : ℕ) (d : Put) → j < length change.puts.items → files (get_or change.puts.items j d).staged ≡ Some (get_or change.puts.items j d).bytes.items
  pub text : files change.fresh ≡ Some change.text.items
  pub rest : (q : Text) → IsNoStage change q → change.fresh ≢ q → files q ≡ before q

-- the plan is carried out
pub record IsCarried (change : Change) (before files : Files) : Type 0 where
  pub stages : (j : ℕ) (d : Put) → j < length change.puts.items → files (get_or change.puts.items j d).staged ≡ None
  pub drops : (j : ℕ) (d : Text) → j < length change.drops.items → files (get_or change.drops.items j d) ≡ None
  pub none : (q : Text) → IsNoPut change q → before q ≡ None → files q ≡ None
  pub rest : (q : Text) → IsNoPut change q → IsNoStage change q → is_among change.drops.items q ≡ false → files q ≡ before q
