use Rattle.rbd_client.proofs.Follows.{release_begins}
use Rattle.rbd_client.proofs.laws.releases_wait_for_requests.Goals as goal

pub returns : goal.returns
returns g c = λ client r sound acts drops. let begins = release_begins g.R.Machine.stands client r sound acts drops in (begins.asked, begins.open_again, begins.rest)
