use Rattle.route_laws.proofs.WorkersRoutes.{HasNodeAt-open_route}
use Rattle.route_laws.proofs.workers_routes.routes_of_one_worker_are_followed.Goals as goal

pub returns : goal.returns
returns c = λ setup marks limit state numbers closed. HasNodeAt-open_route setup marks limit state closed numbers
