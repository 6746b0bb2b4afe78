-- Generated scenes: one for each number. A square room is cut into eight columns and eight rows of cells, each with one
-- obstacle: a square or a right triangle, whose place in its cell and whose side are drawn.
use Rattle.std.specs.Prelude.{◌≡◌, ℕ, ◌+◌, ◌*◌, ◌/◌, ◌%◌, ◌==◌, false, pos, List, [], ◌∷◌, map, if◌then◌else◌}
use Rattle.planner.specs.Terms.{Drawn, Goal, Point, Scene, Vertex, first_word, range_with_len, second_word}

-- the corner with these coordinates
abbrev pub lattice_corner : ℕ → ℕ → Vertex
lattice_corner x y = record { x = pos x; y = pos y }

-- the square with this lower left corner
abbrev pub square_at : Point → ℕ → List Vertex
square_at at side = lattice_corner at.x at.y ∷ lattice_corner (at.x + side) at.y
    ∷ lattice_corner (at.x + side) (at.y + side) ∷ lattice_corner at.x (at.y + side) ∷ []

-- the lower left half of that square
abbrev pub triangle_at : Point → ℕ → List Vertex
triangle_at at side = lattice_corner at.x at.y ∷ lattice_corner (at.x + side) at.y ∷ lattice_corner at.x (at.y + side) ∷ []

-- The lower left corner of an obstacle: the cells are 1,250 wide and high and are numbered row by row, and in its cell the
-- corner stands at 200 and as much as two words say, up to 511.
abbrev pub place_in_cell : ℕ → ℕ → ℕ → Point
place_in_cell cell u v = record { x = (1250 * (cell % 8) + 200) + u % 512; y = (1250 * (cell / 8) + 200) + v % 512 }

-- the side of an obstacle, 100 to 355
abbrev pub side_by : ℕ → ℕ
side_by u = 100 + (u / 512) % 256

-- the obstacle of a cell by two words: a square in a cell of even number, a triangle in one of odd number
abbrev pub obstacle_by : ℕ → ℕ → ℕ → List Vertex
obstacle_by cell u v = if cell % 2 == 0 then square_at (place_in_cell cell u v) (side_by u) else triangle_at (place_in_cell cell u v) (side_by u)

-- the state of the generator that an obstacle is drawn from
abbrev pub generator_state : ℕ → ℕ → ℕ
generator_state number cell = 64 * number + cell

-- the obstacle of a cell
abbrev pub generated_obstacle : ℕ → ℕ → List Vertex
generated_obstacle number cell = obstacle_by cell (first_word (generator_state number cell)) (second_word (generator_state number cell))

-- the obstacles, in the order of the cells
abbrev pub generated_obstacles : ℕ → List (List Vertex)
generated_obstacles number = map (generated_obstacle number) (range_with_len 0 64)

-- the goal of each scene
abbrev pub generated_goals : List Goal
generated_goals = record { low = record { x = 9700; y = 9700 }; high = record { x = 9900; y = 9900 } } ∷ []

-- the scene of this number
pub record IsGenerated (number : ℕ) (scene : Scene) : Type 0 where
  pub version : scene.version ≡ 1
  pub room : scene.room ≡ record { x = 9999; y = 9999 }
  pub body : scene.body ≡ square_at (record { x = 0; y = 0 }) 20
  pub obstacles : scene.obstacles ≡ generated_obstacles number
  pub clearance : scene.clearance ≡ 0
  pub start : scene.start ≡ record { x = 100; y = 100 }
  pub goals : scene.goals ≡ generated_goals
  pub step : scene.step ≡ 400
  pub gamma : scene.gamma ≡ 6900
  pub seed : scene.seed ≡ number
  pub strips : scene.strips ≡ 8
  pub informed : scene.informed ≡ false
  pub plan : scene.plan ≡ Drawn (2000 * (1 + number % 10))
