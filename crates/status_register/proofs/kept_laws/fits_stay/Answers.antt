use Rattle.status_register.proofs.Elsewhere.{fits_with_stay}
use Rattle.status_register.proofs.kept_laws.fits_stay.Goals as goal

pub returns : goal.returns
returns c = λ slots id ms completed begun x y leaves has. fits_with_stay slots id ms completed begun x y leaves has
