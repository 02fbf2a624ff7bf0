-- The bytes of the source of cp.
use Rattle.std.proofs.Common.{◌≡◌, ◌≤◌, ℕ, List, length, sym, subst, arith}
use Rattle.bay.specs.Hosts.{AllStay, HostFile, IfPresent, untold, absent, present}
use Rattle.file_commands.specs.Copying.{HasBytes, HasSize}
use Rattle.file_commands.specs.declared.copying.Source.{Source}
use Rattle.file_commands.specs.declared.copying.Source.TheVariants as source

-- the files of the host stay
pub bytes_stay : (old new : List ℕ → HostFile) (from : Source) (n : ℕ) → AllStay old new → HasBytes old from n → HasBytes new from n
bytes_stay old new (source.Host path) n stay has = subst (λ (f : HostFile). IfPresent f (λ bytes. n ≤ length bytes)) (sym (stay path.now)) has
bytes_stay old new (source.File group opened) n stay has = tt

-- and so many bytes of the source are as many as that
pub stays_to : (old new : List ℕ → HostFile) (from : Source) (n k : ℕ) → AllStay old new → k ≡ n → HasBytes old from n → HasBytes new from k
stays_to old new from n k stay same has = subst (λ (l : ℕ). HasBytes new from l) (sym same) (bytes_stay old new from n stay has)

fewer_in : (f : HostFile) (n k : ℕ) → k ≤ n → IfPresent f (λ bytes. n ≤ length bytes) → IfPresent f (λ bytes. k ≤ length bytes)
fewer_in untold n k few has = tt
fewer_in absent n k few has = has
fewer_in (present bytes) n k few has = omega (arith, few, has)

pub fewer : (file : List ℕ → HostFile) (from : Source) (n k : ℕ) → k ≤ n → HasBytes file from n → HasBytes file from k
fewer file (source.Host path) n k few has = fewer_in (file path.now) n k few has
fewer file (source.File group opened) n k few has = tt

all_in : (f : HostFile) (n : ℕ) → IfPresent f (λ bytes. n ≡ length bytes) → IfPresent f (λ bytes. n ≤ length bytes)
all_in untold n size = tt
all_in absent n size = size
all_in (present bytes) n size = omega (arith, size)

-- it has as many bytes as its size
pub has_all : (file : List ℕ → HostFile) (from : Source) (n : ℕ) → HasSize file from n → HasBytes file from n
has_all file (source.Host path) n size = all_in (file path.now) n size
has_all file (source.File group opened) n size = tt

-- a file of the host has the size that was told of it, and the call left it as it was
pub told_stays : (old new : List ℕ → HostFile) (path : List ℕ) (n : ℕ) → AllStay old new → IfPresent (old path) (λ bytes. n ≡ length bytes) → IfPresent (new path) (λ bytes. n ≡ length bytes)
told_stays old new path n stay told = subst (λ (f : HostFile). IfPresent f (λ bytes. n ≡ length bytes)) (sym (stay path)) told
