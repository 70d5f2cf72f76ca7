-- What a change keeps while it is built: its text is the journal's of what it asks for, and a journal may ask for it.
use Rattle.std.specs.Prelude.{◌≡◌, ◌<◌, ℕ, List, length, map, get_or, codes, ◌++◌, []}
use Rattle.std.specs.Ordering.{nat_cmp}
use Rattle.std.specs.Cmp.Lexicographic.{slice_cmp}
use Rattle.std.specs.BTreeSet.{BTreeSet, contains}
use Rattle.gopass_base.specs.Text.{Text, is_among}
use Rattle.pending_journal.specs.Service.{journal_path, fresh_path}
use Rattle.pending_journal.specs.Journal.{JournalPlan, IsJournalPlan, journal_text, paths_of, put_lines, stage_path}
use Rattle.pending_journal.specs.declared.put.Put.{Put}

-- what puts and drops ask for
abbrev pub plan_by : List Put → List Text → JournalPlan
plan_by puts drops = record { puts = map (λ (put : Put). put.path) puts; drops = drops }

pub record IsBuilt (root journal fresh text : Text) (puts_end : ℕ) (puts : List Put) (drops : List Text) : Type 0 where
  pub journal_is : journal ≡ journal_path root
  pub fresh_is : fresh ≡ fresh_path root
  pub text_is : text ≡ journal_text (plan_by puts drops)
  pub end_is : puts_end ≡ length (codes "journal 1\n" ++ put_lines (plan_by puts drops).puts [])
  pub plan : IsJournalPlan root (plan_by puts drops)
  pub staged : (i : ℕ) (d : Put) → i < length puts → (get_or puts i d).staged ≡ stage_path root i

-- the paths of all steps, and no others
abbrev pub ArePaths : BTreeSet Text → List Put → List Text → Type 0
ArePaths paths puts drops = (path : Text) → contains (slice_cmp nat_cmp) paths path ≡ is_among (paths_of (plan_by puts drops)) path
