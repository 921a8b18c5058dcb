use Rattle.rbd_image.proofs.Shown.{name_is_changed}
use Rattle.rbd_image.proofs.laws.renames_change_the_name.Goals as goal

pub returns : goal.returns
returns c = λ site from to feds steps walk. name_is_changed site from to feds steps walk
