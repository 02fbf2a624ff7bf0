use Rattle.directory_store.proofs.Present.{disk_has, has_of_disk}
use Rattle.directory_store.proofs.laws.disk_has_copy.Goals as goal

pub returns : goal.returns
returns c = λ number copies. ((λ has. has_of_disk number copies has), (λ one. disk_has number copies one.0 one.1 one.2))
