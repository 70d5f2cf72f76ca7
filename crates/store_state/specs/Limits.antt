-- The limits of a store; those of its mounts and rules stand in `mount_table` and `path_rules`.
use Rattle.std.specs.Prelude.{ℕ, ◌+◌}

abbrev pub most_secrets : ℕ
most_secrets = 8192

-- of files below the directory of a mount
abbrev pub most_files : ℕ
most_files = 40000

-- what a listing of them asks for, with the store's own two
abbrev pub most_listed : ℕ
most_listed = most_files + 2

-- the bytes of the mounts file, and of a rule file
abbrev pub most_mounts_bytes : ℕ
most_mounts_bytes = 131072

abbrev pub most_rule_bytes : ℕ
most_rule_bytes = 65536
