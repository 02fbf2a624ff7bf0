-- The source of cp.
use Rattle.std.specs.Prelude.{◌≡◌, ⊤, ℕ, ◌≤◌, List, length}
use Rattle.bay.specs.Hosts.{HostFile, IfPresent}
use Rattle.file_commands.specs.declared.copying.Source.{Source}
use Rattle.file_commands.specs.declared.copying.Source.TheVariants as source

-- a file of the host has this size, where the host tells it
abbrev pub HasSize : (List ℕ → HostFile) → Source → ℕ → Type 0
HasSize file (source.Host path) size = IfPresent (file path.now) (λ bytes. size ≡ length bytes)
HasSize file (source.File group opened) size = ⊤

-- it has so many bytes
abbrev pub HasBytes : (List ℕ → HostFile) → Source → ℕ → Type 0
HasBytes file (source.Host path) n = IfPresent (file path.now) (λ bytes. n ≤ length bytes)
HasBytes file (source.File group opened) n = ⊤
